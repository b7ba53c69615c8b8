-- The nets that gates drive, and what is told of one of them.
use Rattle.std.proofs.Common.{◌≡◌, ◌≢◌, ℕ, ◌<◌, List, [], ◌∷◌, Some, map, length, sym, ◌∙◌, ap, subst, arith}
use Rattle.std.specs.List.{All, AllPairs, Contains, slice_get}
use Rattle.std.proofs.lemmas.List.Elements.{All-contains, All-cons, All-nil, All-map}
use Rattle.std.proofs.lemmas.Option.{slice_get-get_or}
use Rattle.eco_lists.proofs.Members.{Contains-map, map-Contains, Contains_none}
use Rattle.eco_lists.proofs.Places.{All_from_places, Contains_at, pairs_from_places, pairs_cons, pair_at}
use Rattle.eco_meaning.specs.Circuit.{Circuit, NamedGate, names, IsDriven}
use Rattle.eco_meaning.specs.Meaning.{Goal, IsRectifiable, IsWrong}
use Rattle.eco_laws.specs.Kept.{CaresForInputs}
use Rattle.eco_choices.proofs.ChoiceLemmas.{wrong_but_none, wrong_but_part}
use Rattle.eco_gates.specs.declared.gate.NetId.{NetId}
use Rattle.eco_gates.specs.GateValue.{GateValue}
use Rattle.eco_gates.specs.Gates.{IsGateWithin}
use Rattle.eco_netlist.specs.Netlists.{IsChecked, AreGates, name_at, named_gate, names_at}
use Rattle.eco_netlist.proofs.NameLemmas.{one_place, unmapped}
use Rattle.eco_netlist.proofs.NamedGates.{checked_named, once_driven}
use Rattle.eco_netlist.proofs.SoundNetlists.{sound_netlist}
use Rattle.eco_query.specs.Problem.{ProblemValue}
use Rattle.eco_cutting.proofs.CutLemmas.{cut_is_wrong_but, cut_is_rectifiable}
use Rattle.eco_change.specs.Change.{IsChange}
use Rattle.eco_change.specs.CutProblem.{CanBeCut, IsCutProblem}
use Rattle.eco_locate.specs.declared.judging.Verdict.{Verdict}
use Rattle.eco_locate.specs.declared.judging.Verdict.TheVariants.{Choice, Wrong, GivenUp}
use Rattle.eco_locate.specs.Judged.{AreDrivenNets}
use Rattle.eco_locate.specs.Questions.{TellsNets, TellsProblem}

module _ (f : Circuit) (gates : List GateValue) (checked : IsChecked f) (are : AreGates f gates) where
  abbrev all : List (List ℕ)
  all = names f

  abbrev outs : List NetId
  outs = map (λ g. g.out) gates

  gate_of : (net : NetId) → Contains outs net → (g : GateValue) × Contains gates g × (g.out ≡ net)
  gate_of net c = map-Contains (λ (g : GateValue). g.out) gates net c

  apart : (list : List GateValue) → AllPairs (λ g h. g.out.0 ≢ h.out.0) list → AllPairs (λ (a b : NetId). a ≢ b) (map (λ g. g.out) list)
  apart list once =
      pairs_from_places (λ (a b : NetId). a ≢ b) (map (λ g. g.out) list) (λ i j a b less at_a at_b same.
      let (g, g_at, g_out) = unmapped (λ (g : GateValue). g.out) list i a at_a in
      let (h, h_at, h_out) = unmapped (λ (g : GateValue). g.out) list j b at_b in
      pair_at (λ (g h : GateValue). g.out.0 ≢ h.out.0) list i j g h once less g_at h_at
      (ap (λ (n : NetId). n.0) (g_out ∙ same ∙ sym h_out)))

  -- each net that a gate drives is the output of one of the gates
  pub driven_outputs : AreDrivenNets f outs
  driven_outputs = record {
    within = All_from_places (λ net. net.0 < length all) outs (λ k net at.
        let (g, c, same) = gate_of net (Contains_at outs k net at) in
        subst (λ (n : NetId). n.0 < length all) same (All-contains (IsGateWithin (length all)) gates g are.within c).out);
    once = apart gates (once_driven f gates checked (checked_named f gates checked are));
    driven = All_from_places (λ net. IsDriven f (name_at all net.0)) outs (λ k net at.
        let (g, c, same) = gate_of net (Contains_at outs k net at) in
        (named_gate all g, subst (λ list. Contains list (named_gate all g)) are.named (Contains-map (named_gate all) gates g c), ap (λ (n : NetId). name_at all n.0) same));
    complete = λ net below drives.
        let (named, member, out) = drives in
        let (g, c, same) = map-Contains (named_gate all) gates named (subst (λ list. Contains list named) (sym are.named) member) in
        let inside : g.out.0 < length all = (All-contains (IsGateWithin (length all)) gates g are.within c).out in
        let here : slice_get all g.out.0 ≡ Some (name_at all net.0) =
        slice_get-get_or all g.out.0 [] inside ∙ ap (λ (name : List ℕ). Some name) (ap (λ (h : NamedGate). h.out) same ∙ out) in
        let number : g.out.0 ≡ net.0 = one_place all g.out.0 net.0 (name_at all net.0) checked.distinct here (slice_get-get_or all net.0 [] below) in
        let equal : g.out ≡ net = ap (λ (n : ℕ). let id : NetId = record { 0 = n } in id) number in
        subst (Contains outs) equal (Contains-map (λ (g : GateValue). g.out) gates g c);
  }

-- what is told of the problem of nets that are cut tells of the nets
pub tells_of_nets : (f : Circuit) (goal : Goal) (nets : List NetId) (problem : ProblemValue) (limit : ℕ) (verdict : Verdict) → IsChange f goal → CanBeCut f nets → IsCutProblem f goal (names_at (names f) nets) problem → TellsProblem problem limit verdict → TellsNets f goal limit (names_at (names f) nets) verdict
tells_of_nets f goal nets problem limit verdict is can_be cut tells = by verdict tells
  where
    cares : CaresForInputs f goal
    cares care some name c = ((is.asked.care care some).inputs name).1 c

    all_driven : All (IsDriven f) (names_at (names f) nets)
    all_driven = All-map (IsDriven f) (λ (net : NetId). name_at (names f) net.0) nets can_be.driven

    by : (verdict : Verdict) → TellsProblem problem limit verdict → TellsNets f goal limit (names_at (names f) nets) verdict
    by Choice rectifiable =
        (cut_is_rectifiable f goal (names_at (names f) nets) problem.implementation (sound_netlist f is.checked) cares can_be.once all_driven cut.cut).0
        (subst (IsRectifiable problem.implementation) cut.same rectifiable)
    by (Wrong input) wrong =
        let still = (cut_is_wrong_but f goal (names_at (names f) nets) problem.implementation (sound_netlist f is.checked) cares can_be.once all_driven cut.cut input).0
        (subst (λ (g : Goal). IsWrong problem.implementation g input) cut.same wrong) in
        (still, (wrong_but_none f goal input).0 (wrong_but_part f goal (names_at (names f) nets) [] input (All-nil (Contains (names_at (names f) nets))) still))
    by (GivenUp stuck) left = record { problem = problem; posed = cut; left = left }

-- a net that a gate drives can be cut
pub one_can_be_cut : (f : Circuit) (nets : List NetId) (net : NetId) → nets ≡ net ∷ [] → net.0 < length (names f) → IsDriven f (name_at (names f) net.0) → CanBeCut f nets
one_can_be_cut f nets net is within driven = subst (CanBeCut f) (sym is) (record {
  within = All-cons (λ (net : NetId). net.0 < length (names f)) net [] within (All-nil (λ (net : NetId). net.0 < length (names f)));
  driven = All-cons (λ (net : NetId). IsDriven f (name_at (names f) net.0)) net [] driven (All-nil (λ (net : NetId). IsDriven f (name_at (names f) net.0)));
  once = pairs_cons (λ a b. a ≢ b) (name_at (names f) net.0) [] (λ i j d less within. absurd (omega arith)) (λ y c. absurd (Contains_none y c));
  few = omega arith;
})
