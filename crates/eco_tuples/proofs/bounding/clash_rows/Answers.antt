-- One row more, if there is one.
use Rattle.eco_meaning.specs.Circuit.{names}
use Rattle.eco_netlist.specs.Netlists.{names_at}
use Rattle.eco_clash.specs.Costs.{IsClashRow}
use Rattle.eco_tuples.proofs.BoundLaws.{rows_more}
use Rattle.eco_tuples.proofs.bounding.clash_rows.Goals as goal

pub loop-tuple-preserved : goal.loop-tuple-preserved
loop-tuple-preserved g c =
    let problem = c.args.problem.now in
    rows_more (IsClashRow problem.implementation problem.goal (names_at (names problem.implementation) c.args.signals.now)) c.loop-tuple.rows.items c.push_some.new.rows.items c.in_ok-row.row
    c.loop-tuple.invariant c.in_ok-row.ensures c.in_ok-push_some.ensures
