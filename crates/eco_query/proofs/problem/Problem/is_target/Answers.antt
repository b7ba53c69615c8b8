use Rattle.std.proofs.Common.{eqb, ap, subst}
use Rattle.std.proofs.lemmas.List.Elements.{contains_decides, Contains-from_at, at_from_Contains}
use Rattle.eco_meaning.specs.Circuit.{Circuit, names, AreTargets}
use Rattle.eco_netlist.specs.Netlists.{names_at, AreNets, IsChecked}
use Rattle.eco_gates.specs.declared.gate.NetId.{NetId}
use Rattle.eco_query.specs.Problem.{ProblemValue}
use Rattle.eco_netlist.proofs.FanNames.{net_eq-Decides}
use Rattle.eco_query.proofs.Marks.{is_target-by_net}
use Rattle.eco_query.proofs.problem.Problem.is_target.Goals as goal

pub returns : goal.returns
returns c =
    let f = c.args.self.now.implementation in
    let targets = c.targets.result.now in
    let same = ap (λ (p : ProblemValue). p.implementation) c.self.view_is in
    let checked = subst IsChecked same c.self.invariant.0.implementation in
    let named = subst (λ (x : Circuit). AreTargets x (names_at (names x) targets)) same c.targets.ensures.named in
    let within = subst (λ (x : Circuit). AreNets (names x) targets) same c.targets.ensures.within in
    let says = is_target-by_net f targets c.args.net checked named within c.requires.net in
    let found = contains_decides (λ (a b : NetId). eqb a.0 b.0) net_eq-Decides targets c.args.net c.contains.result c.contains.ensures.cases in (
      λ yes. says.0 (Contains-from_at targets c.args.net (found.0 yes)),
      λ is. found.1 (at_from_Contains targets c.args.net (says.1 is)),
    )
