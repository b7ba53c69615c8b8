-- The turns of the single target are its candidates.
use Rattle.std.proofs.Common.{[], List, refl, sym, subst, arith}
use Rattle.std.proofs.lemmas.Result.{IfOk-weaker}
use Rattle.eco_gates.specs.declared.gate.NetId.{NetId}
use Rattle.eco_netlist.specs.Netlists.{AreNets, names_at}
use Rattle.eco_meaning.specs.Circuit.{names}
use Rattle.eco_meaning.specs.Cost.{AreTurns}
use Rattle.eco_audit.specs.Carriers.{AreCarriers, AreUnladen}
use Rattle.eco_audit.proofs.Bounds.{only_item, single}
use Rattle.eco_audit.proofs.Carriers.{first_carriers, turns_weigh}
use Rattle.eco_audit.proofs.Groups.{number_of_target}
use Rattle.eco_audit.proofs.carrying.carriers_of.Goals as goal

pub turns-requires-clause-target : goal.turns-requires-clause-target
turns-requires-clause-target c =
    let s = c.args.solution.now in
    number_of_target s.problem.now.implementation s.report.now 0 (c.requires.judged.before 1 (omega arith)) (omega (arith, c.requires.single))

pub unladen-requires-clause-weighted : goal.unladen-requires-clause-weighted
unladen-requires-clause-weighted c =
    let s = c.args.solution.now in
    let f = s.problem.now.implementation in
    let (group, only) = only_item s.report.now.groups c.requires.single in
    let turns = c.in_ok-nets.ensures.turns [] group.target [] (single s c.requires.judged group only) refl in
    turns_weigh s c.as_slice.result.now
    (subst (λ (l : List NetId). AreTurns f s.problem.now.weights s.problem.now.input_weight [] [] (names_at (names f) l)) (sym c.as_slice.ensures.value) turns)

pub returns : goal.returns
returns c =
    let s = c.args.solution.now in
    let f = s.problem.now.implementation in
    let (group, only) = only_item s.report.now.groups c.requires.single in
    let turns = c.in_ok-nets.ensures.turns [] group.target [] (single s c.requires.judged group only) refl in
    IfOk-weaker c.unladen.result (λ carriers. AreUnladen s.problem.now c.as_slice.result.now carriers.items) (λ carriers. AreCarriers s [] carriers.items)
    (λ carriers unladen. first_carriers s c.as_slice.result.now
    (subst (λ (l : List NetId). AreTurns f s.problem.now.weights s.problem.now.input_weight [] [] (names_at (names f) l)) (sym c.as_slice.ensures.value) turns)
    carriers.items (subst (AreNets (names f)) (sym c.as_slice.ensures.value) c.in_ok-nets.ensures.nets) unladen)
    c.unladen.ensures
