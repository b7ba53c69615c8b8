-- The rows have a bit for each target.
use Rattle.std.proofs.Common.{subst}
use Rattle.eco_meaning.specs.Circuit.{Circuit, names, AreTargets}
use Rattle.eco_netlist.specs.Netlists.{names_at}
use Rattle.test_engine.proofs.TargetCounts.{rows_of_targets}
use Rattle.test_engine.proofs.rectifying.target_rows.Goals as goal

pub returns : goal.returns
returns g c =
    let nets = c.targets-width.result.now in
    let listed = subst (λ (f : Circuit). AreTargets f (names_at (names f) nets)) c.implementation.ensures.value c.targets-width.ensures.named in
    rows_of_targets c.args.problem.now.implementation nets c.rows_of.result.items listed c.rows_of.ensures
