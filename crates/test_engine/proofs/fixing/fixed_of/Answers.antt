-- There are no more fixed bits than targets.
use Rattle.std.proofs.Common.{arith, subst}
use Rattle.eco_meaning.specs.Circuit.{Circuit, names, AreTargets}
use Rattle.eco_netlist.specs.Netlists.{names_at}
use Rattle.test_engine.proofs.TargetCounts.{target_count}
use Rattle.test_engine.proofs.fixing.fixed_of.Goals as goal

pub returns : goal.returns
returns g c targets are =
    let nets = c.targets.result.now in
    let listed = subst (λ (f : Circuit). AreTargets f (names_at (names f) nets)) c.implementation.ensures.value c.targets.ensures.named in
    omega (arith, target_count c.args.problem.now.implementation nets targets listed are)
