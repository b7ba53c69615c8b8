use Rattle.std.proofs.Common.{refl, arith}
use Rattle.std.proofs.lemmas.List.{length-map}
use Rattle.eco_meaning.specs.Circuit.{names}
use Rattle.eco_netlist.specs.Netlists.{name_at, names_at}
use Rattle.eco_gates.specs.declared.gate.NetId.{NetId}
use Rattle.eco_query.proofs.problem.examine_targets.Goals as goal

pub returns : goal.returns
returns c =
    let f = c.args.f.now in
    let targets = c.targets.result.now in
    let name : NetId → _ = λ net. name_at (names f) net.0 in
    let count = length-map targets name in
    record {
      count = _;
      counted = (names_at (names f) targets, c.targets.ensures.named, refl);
      some = omega (arith, count);
      few = omega (arith, count);
    }
