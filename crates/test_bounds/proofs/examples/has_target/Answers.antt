-- The number is below the count of the targets.
use Rattle.std.proofs.Common.{length, subst}
use Rattle.std.proofs.lemmas.Bool.{ltb-true}
use Rattle.std.proofs.lemmas.List.{length-map}
use Rattle.eco_gates.specs.declared.gate.NetId.{NetId}
use Rattle.eco_meaning.specs.Circuit.{Circuit, names}
use Rattle.eco_netlist.specs.Netlists.{name_at, names_at}
use Rattle.eco_query.specs.Problem.{HasTargetNumber}
use Rattle.test_bounds.proofs.examples.has_target.Goals as goal

pub returns : goal.returns
returns c below =
    let f = c.implementation.result.now in
    let nets = c.targets.result.now in
    subst (λ (n : Circuit). HasTargetNumber n c.args.number) c.implementation.ensures.value
    (length nets, (names_at (names f) nets, c.targets.ensures.named, length-map nets (λ (net : NetId). name_at (names f) net.0)), ltb-true c.args.number (length nets) below)
