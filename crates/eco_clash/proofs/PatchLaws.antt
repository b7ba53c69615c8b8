-- A patch that does what is asked, and whose signals are steady over a tuple, gives all targets one row of bits there.
use Rattle.std.proofs.Common.{◌≡◌, inl, inr, ℕ, Bool, false, List, [], ◌∷◌, ◌++◌, length, map, refl, sym, ◌∙◌, subst}
use Rattle.std.specs.List.{All, Contains}
use Rattle.std.proofs.lemmas.List.{append_assoc, append-nil}
use Rattle.std.proofs.lemmas.List.Elements.{All-contains, Contains-append_left, Contains-append_right}
use Rattle.eco_lists.proofs.Members.{Contains_first, Contains_none}
use Rattle.eco_meaning.specs.Circuit.{Circuit, Values, AgreeOn, Fan, IsSignal, IsTarget}
use Rattle.eco_meaning.specs.Meaning.{Goal, IsRight, IsEquivalent}
use Rattle.eco_meaning.specs.Patch.{Fits, splice_of}
use Rattle.eco_meaning.specs.Choice.{IsReached}
use Rattle.eco_laws.specs.Sound.{IsSound}
use Rattle.eco_laws.specs.Kept.{CaresForInputs}
use Rattle.eco_laws.specs.Reached.{IsPatchOf}
use Rattle.eco_laws.proofs.Members.{cases_member}
use Rattle.eco_laws.proofs.Sources.{by_sources, by_targets}
use Rattle.eco_laws.proofs.OneValue.{first_patch, signal_net, same_by_image, agree_on_both, agree_on_one}
use Rattle.eco_laws.proofs.Reaching.{reach}
use Rattle.eco_laws.proofs.Spliced.{to_splice}
use Rattle.eco_laws.proofs.Keeping.{right_from_equivalent, whole_targets}
use Rattle.eco_laws.proofs.AskedLemmas.{map_from_agree}
use Rattle.eco_clash.specs.Clashes.{IsAt, IsClash, IsSteady}
use Rattle.eco_clash.specs.Costs.{PatchesTellClashes}

module _ (f : Circuit) (goal : Goal) (p : Circuit) (sound : IsSound f) (patch : IsSound p) (fits : Fits f p []) where
  whole : IsPatchOf f p p.outputs
  whole = first_patch f p [] sound patch fits

  -- the same patch, of no target
  none : IsPatchOf f p []
  none = record { sound = sound; patch = patch; later = []; fits = fits; behind = p.outputs; first = refl }

  output_target : (name : List ℕ) → Contains p.outputs name → IsTarget f name
  output_target name c = All-contains (IsTarget f) p.outputs name (subst (All (IsTarget f)) (append-nil p.outputs) fits.drives.sound) c

  -- at each input the targets can have the bits that they have in another map
  with_bits : (v : Values) (y : List Bool) → length y ≡ length f.inputs → (u : Values) × IsAt f p.outputs y (map v p.outputs) u × AgreeOn p.outputs u v
  with_bits v y len =
      let (u, reached, asked) = reach f p [] none y v len in
      let same : AgreeOn p.outputs u v = λ name c. asked name (output_target name c) (Contains_none name) in
      (u, record { consistent = reached.consistent; input = reached.input; bits = map_from_agree u v p.outputs same }, same)

  module _ (tuple : List (List Bool)) (steady : All (IsSteady f p.outputs tuple) p.inputs) (x y : List Bool) (in_x : Contains tuple x) (in_y : Contains tuple y) (len : length y ≡ length f.inputs) (v u : Values) (v_is : IsReached f p p.outputs x v) (u_is : IsReached f p p.outputs y u) where
    -- a signal that the function of the next target reads has one value, where the targets before have one each
    read_alike : (before : List (List ℕ)) (target : List ℕ) (behind : List (List ℕ)) → p.outputs ≡ before ++ target ∷ behind → AgreeOn before v u → (signal : List ℕ) → Contains p.inputs signal → Fan p signal target → v signal ≡ u signal
    read_alike before target behind cut agree signal input fan =
        let (at, at_is, same) = with_bits v y len in
        let at_x : IsAt f p.outputs x (map v p.outputs) v = record { consistent = v_is.consistent; input = v_is.input; bits = refl } in
        let earlier : AgreeOn before at u = λ name c. same name (subst (λ list. Contains list name) (sym cut) (Contains-append_left before (target ∷ behind) name c)) ∙ agree name c in
        let net = signal_net f sound signal (All-contains (IsSignal f) p.inputs signal fits.reads input) in
        All-contains (IsSteady f p.outputs tuple) p.inputs signal steady input x y (map v p.outputs) v at in_x in_y at_x at_is
        ∙ by_targets f at u before sound at_is.consistent u_is.consistent (same_by_image at u f.inputs (at_is.input ∙ sym u_is.input)) earlier signal net (fits.apart before target behind cut signal input fan)

    -- so the function has one bit
    next_alike : (before : List (List ℕ)) (target : List ℕ) (behind : List (List ℕ)) → p.outputs ≡ before ++ target ∷ behind → AgreeOn before v u → v target ≡ u target
    next_alike before target behind cut agree =
        let w = v_is.follows in
        let o = u_is.follows in
        let output : Contains p.outputs target = subst (λ list. Contains list target) (sym cut) (Contains-append_right before (target ∷ behind) target (Contains_first target behind)) in
        let bit : w.0 target ≡ o.0 target = by_sources p w.0 o.0 patch w.1 o.1 target (patch.outputs target output) (λ source is fan. elim (cases_member p.inputs source) [
          | inl input ↦ sym (w.2 source input) ∙ read_alike before target behind cut agree source input fan ∙ o.2 source input
          | inr no_input ↦
              let open_net : IsTarget p source = record {
                net = is.net;
                free = λ signal. elim signal [ inl input ↦ no_input input | inr driven ↦ is.free driven ];
              } in
              absurd (fits.closed source open_net)
        ]) in
        w.3 target output ∙ bit ∙ sym (o.3 target output)

    -- target by target the maps agree
    go_on : (before rest : List (List ℕ)) → p.outputs ≡ before ++ rest → AgreeOn before v u → AgreeOn p.outputs v u
    go_on before [] cut agree = subst (λ list. AgreeOn list v u) (sym (cut ∙ append-nil before)) agree
    go_on before (target ∷ rest) cut agree =
        go_on (before ++ target ∷ []) rest (cut ∙ sym (append_assoc before (target ∷ []) rest))
        (agree_on_both v u before (target ∷ []) agree (agree_on_one v u target (next_alike before target rest cut agree)))

    targets_alike : AgreeOn p.outputs v u
    targets_alike = go_on [] p.outputs refl (λ name c. absurd (Contains_none name c))

  tells : CaresForInputs f goal → IsEquivalent (splice_of f p) goal → (tuple : List (List Bool)) → IsClash f goal p.outputs tuple → All (IsSteady f p.outputs tuple) p.inputs → ⊥
  tells cares equivalent [] clash steady = clash.never [] (λ x c. absurd (Contains_none x c))
  tells cares equivalent (x ∷ tuple) clash steady =
      let in_x = Contains_first x tuple in
      let (v, v_is, _) = reach f p p.outputs whole x (λ name. false) (All-contains (λ y. length y ≡ length f.inputs) (x ∷ tuple) x clash.len in_x) in
      clash.never (map v p.outputs) (λ y in_y.
      let len : length y ≡ length f.inputs = All-contains (λ y. length y ≡ length f.inputs) (x ∷ tuple) y clash.len in_y in
      let (u, u_is, _) = reach f p p.outputs whole y (λ name. false) len in
      let same = targets_alike (x ∷ tuple) steady x y in_x in_y len v u v_is u_is in
      record {
        values = u;
        at = record { consistent = u_is.consistent; input = u_is.input; bits = map_from_agree u v p.outputs (λ name c. sym (same name c)) };
        right = right_from_equivalent f goal p whole (whole_targets f p fits) cares equivalent y u u_is;
      })

pub patches_tell_clashes : PatchesTellClashes
patches_tell_clashes f goal p tuple sound patch fits cares equivalent = tells f goal p sound patch fits cares equivalent tuple
