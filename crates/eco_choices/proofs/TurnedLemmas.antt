-- A net that is turned: how it tells whether cutting it helps, and that an input determines what it does.
use Rattle.std.proofs.Common.{◌≡◌, ◌≢◌, inl, inr, ℕ, Bool, not, List, [], ◌∷◌, map, sym, ◌∙◌, ap, subst}
use Rattle.std.specs.List.{Contains}
use Rattle.std.proofs.lemmas.Bool.{false≢true}
use Rattle.std.proofs.lemmas.List.{length-map}
use Rattle.eco_lists.proofs.Members.{Contains_none, only_one}
use Rattle.eco_lists.proofs.Places.{map_agree, Contains_at}
use Rattle.eco_lists.proofs.Tests.{cases_bits, opposite}
use Rattle.eco_meaning.specs.Gates.{apply}
use Rattle.eco_meaning.specs.Circuit.{Circuit, NamedGate, Values, value_of, IsConsistent}
use Rattle.eco_laws.specs.Sound.{IsSound}
use Rattle.eco_laws.proofs.AlongReads.{along_reads}
use Rattle.eco_laws.proofs.Drivers.{cases_driven, one_driver}
use Rattle.eco_laws.proofs.Keeping.{cared_alike}
use Rattle.eco_laws.proofs.Members.{cases_names, cases_member}
use Rattle.eco_laws.proofs.OneValue.{same_by_image}
use Rattle.eco_laws.proofs.Sources.{by_targets, same_terms}
use Rattle.eco_choices.specs.Choices.{IsConsistentBut}
use Rattle.eco_choices.specs.Turned.{IsTurned, TurnedIsWrongBut, UnmendedIsWrongBut, TurnedMapsAgree, SpecificationIsAsked, OtherOutputsAreWrong}

-- the value of a gate where the nets have these bits
abbrev value_at : Values → NamedGate → Bool
value_at v g = apply g.kind (map (value_of v) g.terms)

-- a map that is consistent but for a net's gate is consistent if that gate has its value, and else has the net turned
consistent_by : (f : Circuit) (net : List ℕ) (v : Values) → IsSound f → IsConsistentBut f (net ∷ []) v → (g : NamedGate) → Contains f.gates g → g.out ≡ net → v g.out ≡ value_at v g → IsConsistent f v
consistent_by f net v sound but g member at same h in' =
    elim (cases_names h.out net) [
      | inl here ↦ let one : g ≡ h = one_driver f sound g h member in' (at ∙ sym here) in subst (λ (k : NamedGate). v k.out ≡ value_at v k) one same
      | inr other ↦ but h in' (λ c. other (sym (only_one net h.out c)))
    ]

turned_by : (f : Circuit) (net : List ℕ) (v : Values) → IsSound f → IsConsistentBut f (net ∷ []) v → (g : NamedGate) → Contains f.gates g → g.out ≡ net → v g.out ≢ value_at v g → IsTurned f net v
turned_by f net v sound but g member at differ = record {
  others = λ h in' other. but h in' (λ c. other (sym (only_one net h.out c)));
  turned = λ h in' here.
      let one : g ≡ h = one_driver f sound g h member in' (at ∙ sym here) in
      subst (λ (k : NamedGate). v k.out ≡ not (value_at v k)) one (opposite (v g.out) (value_at v g) differ);
}

pub turned_is_wrong_but : TurnedIsWrongBut
turned_is_wrong_but f goal net x sound wrong never = record {
  len = wrong.len;
  never = λ v but input asked.
      let right : IsConsistent f v → ⊥ = λ consistent. wrong.never v consistent input (record { consistent = consistent; agrees = asked }) in
      elim (cases_driven f net) [
        | inr none ↦ right (λ g member. but g member (λ c. none (g, member, sym (only_one net g.out c))))
        | inl driven ↦
            let (g, member, at) = driven in
            elim (cases_bits (v g.out) (value_at v g)) [
              | inl same ↦ right (consistent_by f net v sound but g member at same)
              | inr differ ↦ never v (turned_by f net v sound but g member at differ) input asked
            ]
      ];
}

pub unmended_is_wrong_but : UnmendedIsWrongBut
unmended_is_wrong_but f goal net x wanted sound wrong are bit =
    turned_is_wrong_but f goal net x sound wrong
    (λ v turned input asked. false≢true ((bit v turned input).1 (are v input asked)))

pub turned_maps_agree : TurnedMapsAgree
turned_maps_agree f net v u sound closed v_is u_is inputs =
    along_reads f sound (λ name. v name ≡ u name)
    (λ name has none. elim (cases_member f.inputs name) [
      | inl input ↦ inputs name input
      | inr other ↦ absurd (closed name (record { net = has; free = λ signal. elim signal [ inl input ↦ other input | inr driven ↦ none driven ] }))
    ])
    (λ g member before.
    let same : value_at v g ≡ value_at u g = ap (apply g.kind) (same_terms v u g before) in
    elim (cases_names g.out net) [
      | inl here ↦ v_is.turned g member here ∙ ap not same ∙ sym (u_is.turned g member here)
      | inr other ↦ v_is.others g member other ∙ same ∙ sym (u_is.others g member other)
    ])

pub specification_is_asked : SpecificationIsAsked
specification_is_asked f goal u cares consistent cared v input asked =
    let inputs = same_by_image v u f.inputs input in
    map_agree v u f.outputs (λ k name at.
    asked (cared_alike f.inputs goal.care u v cares (λ n c. sym (inputs n c)) cared) u consistent inputs name (Contains_at f.outputs k name at))

pub other_outputs_are_wrong : OtherOutputsAreWrong
other_outputs_are_wrong f goal v wanted sound closed consistent are other = record {
  len = length-map f.inputs v;
  never = λ u u_is input right.
      let outputs : map v f.outputs ≡ map u f.outputs = map_agree v u f.outputs (λ k name at.
      by_targets f v u [] sound consistent u_is (same_by_image v u f.inputs (sym input)) (λ n c. absurd (Contains_none n c)) name
      (sound.outputs name (Contains_at f.outputs k name at)) (λ target is fan. absurd (closed target is))) in
      other (outputs ∙ are u input right.agrees);
}
