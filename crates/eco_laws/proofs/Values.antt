-- Candidates have values, and functions of them with the forced bits keep an implementation rectifiable.
use Rattle.std.proofs.Common.{◌≡◌, ℕ, Bool, true, false, List, map, sym, ◌∙◌, ap}
use Rattle.std.specs.List.{Contains}
use Rattle.std.proofs.lemmas.Bool.{true≢false}
use Rattle.std.proofs.lemmas.List.Elements.{All-contains}
use Rattle.eco_lists.proofs.Places.{map_agree, Contains_at, All_at}
use Rattle.eco_meaning.specs.Circuit.{Circuit, Values}
use Rattle.eco_meaning.specs.Cost.{IsCandidate}
use Rattle.eco_meaning.specs.Choice.{IsReached, AreValues}
use Rattle.eco_laws.specs.Parts.{LeavesTheSame}
use Rattle.eco_laws.specs.Kept.{HasForcedBits}
use Rattle.eco_laws.specs.Functions.{SameFunctionsAreParts, HasOneFunction, AreReadable, CandidatesHaveValues, AgreeByValues, FunctionsShowThatSignalsSuffice, FunctionsKeep}
use Rattle.eco_laws.proofs.OneValue.{signal_net, same_behind, same_by_image}
use Rattle.eco_laws.proofs.Reaching.{reach, takes_any_inputs}
use Rattle.eco_laws.proofs.Keeping.{keep}
use Rattle.eco_laws.proofs.Shares.{parts_leave_the_same, stands_with, forced_back}

-- what candidates have in any map that is reached are their values
pub values_of_reached : (f p : Circuit) (earlier signals : List (List ℕ)) → AreReadable f p earlier signals → (x : List Bool) (v : Values) → IsReached f p earlier x v → AreValues f p earlier signals x (map v signals)
values_of_reached f p earlier signals are x v reached = record {
  some = (v, reached);
  only = λ u u_is. map_agree u v signals (λ k name at.
      let candidate = All_at (IsCandidate f are.weights are.input_weight earlier) signals k name are.candidates at in
      same_behind f p earlier are.patch x u v u_is reached name (signal_net f are.patch.sound name candidate.signal) candidate.apart);
}

pub candidates_have_values : CandidatesHaveValues
candidates_have_values f p earlier signals are x same =
    let some = reach f p earlier are.patch x (λ name. false) same in
    (map some.0 signals, values_of_reached f p earlier signals are x some.0 some.1)

pub agree_by_values : AgreeByValues
agree_by_values f p earlier signals x y bits others at_x at_y = (
  λ agree.
      let v = at_x.some in
      let u = at_y.some in
      sym (at_x.only v.0 v.1) ∙ map_agree v.0 u.0 signals (λ k name at. agree v.0 u.0 v.1 u.1 name (Contains_at signals k name at)) ∙ at_y.only u.0 u.1,
  λ same v u v_is u_is. same_by_image v u signals (at_x.only v v_is ∙ same ∙ sym (at_y.only u u_is)),
)

pub same_functions_are_parts : SameFunctionsAreParts
same_functions_are_parts p q earlier reads one = record {
  reads = λ name c. All-contains (Contains q.inputs) p.inputs name reads c;
  alike = λ w o w_is o_is same name c.
      let is = All-contains (HasOneFunction p q) earlier name one c in
      is.first.value w w_is
      ∙ ap is.function (map_agree w o is.signals (λ k signal at. same signal (All_at (Contains p.inputs) is.signals k signal is.first.reads at)))
      ∙ sym (is.second.value o o_is);
}

pub functions_show_that_signals_suffice : FunctionsShowThatSignalsSuffice
functions_show_that_signals_suffice f goal p earlier target signals function are meets x y conflict =
    let at_x = candidates_have_values f p earlier signals are x conflict.one.len in
    let at_y = candidates_have_values f p earlier signals are y conflict.zero.len in
    let same = (agree_by_values f p earlier signals x y at_x.0 at_y.0 at_x.1 at_y.1).0 conflict.alike in
    true≢false (sym (meets x at_x.0 true conflict.one at_x.1) ∙ ap function same ∙ meets y at_y.0 false conflict.zero at_y.1)

pub functions_keep : FunctionsKeep
functions_keep f goal p q earlier target signals function are more part meets has kept =
    let same : LeavesTheSame f p q earlier = parts_leave_the_same f p q earlier (takes_any_inputs p are.patch.patch) (takes_any_inputs q more.patch) part in
    let forced_bits : HasForcedBits f goal q earlier target = λ x bit forced v w reached w_is inputs.
    let bits : map w signals ≡ map v signals = map_agree w v signals (λ k name at. sym (inputs name (All_at (Contains q.inputs) signals k name has.reads at))) in
    has.value w w_is ∙ ap function bits
    ∙ meets x (map v signals) bit (forced_back f p q earlier same goal target x bit forced) (values_of_reached f p earlier signals are x v ((same x v).1 reached)) in
    keep f goal q earlier target more forced_bits ((stands_with f p q earlier same).kept goal kept)
