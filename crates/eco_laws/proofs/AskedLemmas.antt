-- What follows where no answer is left among rows: proofs.
use Rattle.std.proofs.Common.{◌≡◌, inl, inr, ℕ, Bool, true, false, not, List, [], ◌∷◌, ◌++◌, length, map, refl, sym, ◌∙◌, ap, subst, arith}
use Rattle.std.specs.List.{Contains}
use Rattle.std.proofs.lemmas.List.{length-map}
use Rattle.eco_lists.proofs.Places.{Contains_at, map_agree}
use Rattle.eco_meaning.specs.Circuit.{Circuit, Values, names, IsConsistent, AgreeOn, IsSignal, IsTarget}
use Rattle.eco_meaning.specs.Choice.{IsReached}
use Rattle.std.proofs.lemmas.List.Elements.{All-contains}
use Rattle.eco_laws.specs.Reached.{IsPatchOf}
use Rattle.eco_laws.proofs.Members.{cases_member}
use Rattle.eco_laws.proofs.Sources.{by_targets}
use Rattle.eco_laws.proofs.OneValue.{signal_net, same_by_image, reached_maps_agree}
use Rattle.eco_laws.proofs.Reaching.{maps_are_reached}
use Rattle.eco_laws.specs.Asked.{NoneMissed, NoneSeparated, MissedIsWrong, EarlierHaveValues, AmongIsForced, SeparatedIsConflict, MissedRowIsNew, FixedBitsFit, FixedRestIsNew, FixedRestFits}

-- values that agree have one image
pub map_from_agree : (v u : Values) (list : List (List ℕ)) → AgreeOn list v u → map v list ≡ map u list
map_from_agree v u list agree = map_agree v u list (λ k name at. agree name (Contains_at list k name at))

pub none_missed : NoneMissed
none_missed f goal targets rows none x wrong =
    none x (record { len = wrong.len; never = λ v right at among. wrong.never v right.consistent at right })

pub none_separated : NoneSeparated
none_separated f goal p earlier target later rests base none x y conflict =
    none x y (record {
      one = record { len = conflict.one.len; never = λ v at bit among right. conflict.one.never v at bit right };
      zero = record { len = conflict.zero.len; never = λ v at bit among right. conflict.zero.never v at bit right };
      alike = conflict.alike;
    })

pub missed_is_wrong : MissedIsWrong
missed_is_wrong f goal targets rows x missed unfixed = record {
  len = missed.len;
  never = λ v consistent at right.
      unfixed (map v targets) (record { rest = map v targets; begins = refl; values = v; right = right; input = at; row = refl });
}

-- the values of all targets, of the earlier ones, of the target itself and of the later ones
values_split : (v : Values) (earlier : List (List ℕ)) (target : List ℕ) (later : List (List ℕ)) → map v (earlier ++ target ∷ later) ≡ (map v earlier ++ v target ∷ []) ++ map v later
values_split v [] target later = refl
values_split v (first ∷ earlier) target later = ap (λ bits. v first ∷ bits) (values_split v earlier target later)

pub earlier_have_values : EarlierHaveValues
earlier_have_values f p earlier x v patch reached = record {
  some = (v, reached);
  only = λ u at_x. map_from_agree u v earlier ((reached_maps_agree f p earlier patch x u v at_x reached).0);
}

pub among_is_forced : AmongIsForced
among_is_forced f goal p earlier target later rests x bit values among at unfixed = record {
  len = among.len;
  never = λ v reached opposite right.
      unfixed (map v (earlier ++ target ∷ later)) (record {
        rest = map v later;
        begins = values_split v earlier target later ∙ cc (opposite, at.only v reached);
        values = v;
        right = right;
        input = reached.input;
        row = refl;
      });
}

pub separated_is_conflict : SeparatedIsConflict
separated_is_conflict f goal p earlier target later rests base x y at_x at_y separated are_x unfixed_x are_y unfixed_y = record {
  one = among_is_forced f goal p earlier target later rests x true at_x separated.one are_x unfixed_x;
  zero = among_is_forced f goal p earlier target later rests y false at_y separated.zero are_y unfixed_y;
  alike = separated.alike;
}

pub missed_row_is_new : MissedRowIsNew
missed_row_is_new f goal targets rows fixed x bits missed found listed =
    missed.never found.values found.right found.input (subst (Contains rows) (sym found.row) listed)

-- a net of f has one value where the inputs, the earlier targets and all others have the same values
same_on_nets : (f p : Circuit) (earlier : List (List ℕ)) (v u : Values) → IsPatchOf f p earlier → IsConsistent f v → IsConsistent f u → AgreeOn f.inputs v u → AgreeOn earlier v u → ((target : List ℕ) → IsTarget f target → (Contains earlier target → ⊥) → v target ≡ u target) → AgreeOn (names f) v u
same_on_nets f p earlier v u patch of_v of_u inputs before others name net =
    let drives = patch.fits.drives in
    let targets = p.outputs ++ patch.later in
    by_targets f v u targets patch.sound of_v of_u inputs
    (λ target among. elim (cases_member earlier target) [
      | inl is_earlier ↦ before target is_earlier
      | inr other ↦ others target (All-contains (IsTarget f) targets target drives.sound among) other
    ])
    name net (λ target is_target fan. drives.complete target is_target)

-- whether values are reached at an input is told by their inputs and by the bits of the earlier targets
pub told_by_earlier : (f p : Circuit) (earlier : List (List ℕ)) (x : List Bool) (v u : Values) → IsPatchOf f p earlier → IsReached f p earlier x v → IsConsistent f u → map u f.inputs ≡ x → AgreeOn earlier v u → IsReached f p earlier x u
told_by_earlier f p earlier x v u patch reached of_f input before =
    let (o, at_x, others) = maps_are_reached f p earlier patch x u (ap length (sym input) ∙ length-map f.inputs u) in
    let same_before : AgreeOn earlier o u =
    λ name among. (reached_maps_agree f p earlier patch x o v at_x reached).0 name among ∙ before name among in
    let same : AgreeOn (names f) o u =
    same_on_nets f p earlier o u patch at_x.consistent of_f (same_by_image o u f.inputs (at_x.input ∙ sym input)) same_before others in
    let (w, of_p, reads, gives) = at_x.follows in
    record {
      consistent = of_f;
      input = input;
      follows = (
        w,
        of_p,
        λ name among. sym (same name (signal_net f patch.sound name (All-contains (IsSignal f) p.inputs name patch.fits.reads among))) ∙ reads name among,
        λ name among. sym (same_before name among) ∙ gives name among,
      );
    }

-- the parts of the bits that were found
record AreParts (v : Values) (earlier : List (List ℕ)) (target : List ℕ) (later : List (List ℕ)) (values : List Bool) (bit : Bool) (rest : List Bool) : Type 0 where
  before : map v earlier ≡ values
  here : v target ≡ bit
  behind : map v later ≡ rest

found_parts : (v : Values) (earlier : List (List ℕ)) (target : List ℕ) (later : List (List ℕ)) (values : List Bool) (bit : Bool) (rest : List Bool) → length earlier ≡ length values → map v (earlier ++ target ∷ later) ≡ (values ++ bit ∷ []) ++ rest → AreParts v earlier target later values bit rest
found_parts v [] target later [] bit rest len same = record { before = refl; here = cc; behind = cc }
found_parts v [] target later (b ∷ values) bit rest len same = absurd (omega arith)
found_parts v (first ∷ earlier) target later [] bit rest len same = absurd (omega arith)
found_parts v (first ∷ earlier) target later (b ∷ values) bit rest len same =
    let parts : AreParts v earlier target later values bit rest = found_parts v earlier target later values bit rest (omega arith) cc in
    record { before = cc (parts.before); here = parts.here; behind = parts.behind }

pub fixed_rest_is_new : FixedRestIsNew
fixed_rest_is_new f goal p earlier target later rests x bit values bits patch among at found listed =
    let (u, reached) = at.some in
    let v = found.values in
    let known : map u earlier ≡ values = at.only u reached in
    let len : length earlier ≡ length values = sym (length-map earlier u) ∙ ap length known in
    let parts = found_parts v earlier target later values (not bit) found.rest len (found.row ∙ found.begins) in
    among.never v (told_by_earlier f p earlier x u v patch reached found.right.consistent found.input (same_by_image u v earlier (known ∙ sym parts.before)))
    parts.here (subst (Contains rests) (sym parts.behind) listed) found.right

pub fixed_rest_fits : FixedRestFits
fixed_rest_fits f goal p earlier target later x bit values bits at found =
    let (u, reached) = at.some in
    let len : length earlier ≡ length values = sym (length-map earlier u) ∙ ap length (at.only u reached) in
    let parts = found_parts found.values earlier target later values (not bit) found.rest len (found.row ∙ found.begins) in
    ap length (sym parts.behind) ∙ length-map later found.values

pub fixed_bits_fit : FixedBitsFit
fixed_bits_fit n goal nets fixed x bits found = ap length (sym found.row) ∙ length-map nets found.values
