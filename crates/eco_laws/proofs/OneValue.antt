-- An input and the patches of the earlier targets determine the earlier targets and what lies behind no others.
use Rattle.std.proofs.Common.{◌≡◌, inl, inr, ℕ, Bool, List, [], ◌∷◌, ◌++◌, map, refl, sym, ◌∙◌, ap, subst}
use Rattle.std.specs.List.{Contains}
use Rattle.std.proofs.lemmas.List.{append_assoc, append-nil}
use Rattle.std.proofs.lemmas.List.Elements.{All-contains, Contains-append_right, Contains-append_cases}
use Rattle.eco_lists.proofs.Members.{Contains_first, Contains_cases, only_one, Contains_none}
use Rattle.eco_meaning.specs.Circuit.{Circuit, Values, names, IsConsistent, AgreeOn, IsSignal, IsTarget}
use Rattle.eco_meaning.specs.Patch.{Fits, IsBehindOnly}
use Rattle.eco_meaning.specs.Choice.{IsReached}
use Rattle.eco_laws.specs.Sound.{IsSound}
use Rattle.eco_laws.specs.Reached.{IsPatchOf, ReachedMapsAgree}
use Rattle.eco_laws.proofs.Members.{cases_member}
use Rattle.eco_laws.proofs.Sources.{by_sources, by_targets}

-- a patch of the first targets
pub first_patch : (f p : Circuit) (later : List (List ℕ)) → IsSound f → IsSound p → Fits f p later → IsPatchOf f p p.outputs
first_patch f p later sound patch fits = record {
  sound = sound;
  patch = patch;
  later = later;
  fits = fits;
  behind = [];
  first = sym (append-nil p.outputs);
}

-- an input or a gate's output is a net
pub signal_net : (n : Circuit) → IsSound n → (name : List ℕ) → IsSignal n name → Contains (names n) name
signal_net n sound name signal =
    elim signal [
      | inl input ↦ sound.inputs name input
      | inr driven ↦ subst (Contains (names n)) driven.2 (sound.driven_nets driven.0 driven.1)
    ]

-- a list's members have one bit in maps with one image of the list
pub same_by_image : (v u : Values) (list : List (List ℕ)) → map v list ≡ map u list → AgreeOn list v u
same_by_image v u [] same name c = absurd (Contains_none name c)
same_by_image v u (first ∷ list) same name c =
    let head : v first ≡ u first = cc same in
    let tail : map v list ≡ map u list = cc same in
    elim (Contains_cases first name list c) [
      | inl here ↦ sym (ap v here) ∙ head ∙ ap u here
      | inr later ↦ same_by_image v u list tail name later
    ]

-- maps that agree on two lists agree on the one behind the other
pub agree_on_both : (v u : Values) (list others : List (List ℕ)) → AgreeOn list v u → AgreeOn others v u → AgreeOn (list ++ others) v u
agree_on_both v u list others first second name c =
    elim (Contains-append_cases list others name c) [ inl here ↦ first name here | inr there ↦ second name there ]

pub agree_on_one : (v u : Values) (target : List ℕ) → v target ≡ u target → AgreeOn (target ∷ []) v u
agree_on_one v u target same name c =
    let here = only_one target name c in
    sym (ap v here) ∙ same ∙ ap u here

-- with the same inputs and the same earlier targets, the patch has the same bit for the next target
pub next_target : (f p : Circuit) (later : List (List ℕ)) → IsSound f → IsSound p → Fits f p later → (v u w o : Values) → IsConsistent f v → IsConsistent f u → AgreeOn f.inputs v u → IsConsistent p w → IsConsistent p o → AgreeOn p.inputs v w → AgreeOn p.inputs u o → (before : List (List ℕ)) (target : List ℕ) (behind : List (List ℕ)) → p.outputs ≡ before ++ target ∷ behind → AgreeOn before v u → w target ≡ o target
next_target f p later sound patch fits v u w o v_is u_is inputs w_is o_is v_w u_o before target behind cut agree =
    let output : Contains p.outputs target = subst (λ list. Contains list target) (sym cut) (Contains-append_right before (target ∷ behind) target (Contains_first target behind)) in
    by_sources p w o patch w_is o_is target (patch.outputs target output) (λ source is fan. elim (cases_member p.inputs source) [
      | inl input ↦
          let net = signal_net f sound source (All-contains (IsSignal f) p.inputs source fits.reads input) in
          sym (v_w source input)
          ∙ by_targets f v u before sound v_is u_is inputs agree source net (fits.apart before target behind cut source input fan)
          ∙ u_o source input
      | inr none ↦
          let target : IsTarget p source = record {
            net = is.net;
            free = λ signal. elim signal [ inl input ↦ none input | inr driven ↦ is.free driven ];
          } in
          absurd (fits.closed source target)
    ])

module _ (f p : Circuit) (earlier : List (List ℕ)) (is : IsPatchOf f p earlier) (x : List Bool) (v u : Values) (v_is : IsReached f p earlier x v) (u_is : IsReached f p earlier x u) where
  same_inputs : AgreeOn f.inputs v u
  same_inputs = same_by_image v u f.inputs (v_is.input ∙ sym u_is.input)

  -- from the first targets to all of the earlier ones
  go_on : (before rest : List (List ℕ)) → earlier ≡ before ++ rest → AgreeOn before v u → AgreeOn earlier v u
  go_on before [] cut agree = subst (λ list. AgreeOn list v u) (sym (cut ∙ append-nil before)) agree
  go_on before (target ∷ rest) cut agree =
      let whole : p.outputs ≡ before ++ target ∷ (rest ++ is.behind) = is.first ∙ ap (λ list. list ++ is.behind) cut ∙ append_assoc before (target ∷ rest) is.behind in
      let here : Contains earlier target = subst (λ list. Contains list target) (sym cut) (Contains-append_right before (target ∷ rest) target (Contains_first target rest)) in
      let w = v_is.follows in
      let o = u_is.follows in
      let bit = next_target f p is.later is.sound is.patch is.fits v u w.0 o.0 v_is.consistent u_is.consistent same_inputs w.1 o.1 w.2 o.2 before target (rest ++ is.behind) whole agree in
      let same : v target ≡ u target = w.3 target here ∙ bit ∙ sym (o.3 target here) in
      go_on (before ++ target ∷ []) rest (cut ∙ sym (append_assoc before (target ∷ []) rest)) (agree_on_both v u before (target ∷ []) agree (agree_on_one v u target same))

  pub same_earlier : AgreeOn earlier v u
  same_earlier = go_on [] earlier refl (λ name c. absurd (Contains_none name c))

  pub same_behind : (name : List ℕ) → Contains (names f) name → IsBehindOnly f earlier name → v name ≡ u name
  same_behind = by_targets f v u earlier is.sound v_is.consistent u_is.consistent same_inputs same_earlier

pub reached_maps_agree : ReachedMapsAgree
reached_maps_agree f p earlier is x v u v_is u_is = (same_earlier f p earlier is x v u v_is u_is, same_behind f p earlier is x v u v_is u_is)
