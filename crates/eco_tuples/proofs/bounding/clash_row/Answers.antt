-- The tuple clashes, and the row has all signals that may vary over it.
use Rattle.std.proofs.Common.{sym, subst}
use Rattle.std.specs.Prelude.{IfOk, IfSome}
use Rattle.eco_meaning.specs.Circuit.{Circuit, names}
use Rattle.eco_netlist.specs.Netlists.{names_at}
use Rattle.eco_clash.specs.Costs.{IsClashRow}
use Rattle.eco_tuples.specs.Answers.{IsClashAnswer}
use Rattle.eco_tuples.specs.Rows.{IsSteadyBeside}
use Rattle.eco_tuples.proofs.BoundLaws.{row_is}
use Rattle.eco_tuples.proofs.bounding.clash_row.Goals as goal
use Rattle.eco_tuples.proofs.bounding.clash_row.Goals.{in-Shown+in_ok-row-in-Shown, in-Fixed}

pub returns : goal.returns
returns g c =
    let problem = c.args.problem.now in
    let tuple = c.args.tuple.now in
    let signals = names_at (names problem.implementation) c.args.signals.now in
    elim c.match-branch-2.branch [
      | in-Shown+in_ok-row-in-Shown w ↦
          let row = w.in_ok-row-in-Shown.row in
          subst (λ r. IfOk r (λ found. IfSome found (IsClashRow problem.implementation problem.goal signals))) (sym w.result-is)
          (row_is problem signals tuple row (subst (IsClashAnswer problem tuple c.args.limit) w.in-Shown.is c.in_ok-clashes.ensures)
          (subst (λ (f : Circuit). IsSteadyBeside f (names_at (names f) c.args.signals.now) tuple row) w.implementation.ensures.value w.in_ok-row-in-Shown.ensures))
      | in-Fixed w ↦ subst (λ r. IfOk r (λ found. IfSome found (IsClashRow problem.implementation problem.goal signals))) (sym w.result-is) tt
    ]
