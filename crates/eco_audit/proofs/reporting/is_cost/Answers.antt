-- The weights so far and what is left are the cost.
use Rattle.std.proofs.Common.{Bor, ap, arith}
use Rattle.std.proofs.lemmas.Bool.{false≢true}
use Rattle.eco_meaning.specs.Report.{BaseSignal}
use Rattle.eco_audit.proofs.Lists.{cost_more, cost_least}
use Rattle.eco_audit.proofs.reporting.is_cost.Goals as goal

pub returns-then-weight-left : goal.returns-then-weight-left
returns-then-weight-left c = (
  λ holds. absurd (false≢true holds),
  λ same.
      let weight = ap (λ (b : BaseSignal). b.weight) c.reported.view_is in
      let least = cost_least (λ (b : Bor BaseSignal). b.now) c.args.base.now c.loop-reported.reported-index c.reported-item.result c.reported-item.result c.reported-item.is (omega arith) in
      absurd (omega (arith, weight, least, same, c.loop-reported.invariant, c.if-weight-left.true, c.from-weight.ensures)),
)

pub loop-reported-preserved : goal.loop-reported-preserved
loop-reported-preserved c =
    let weight = ap (λ (b : BaseSignal). b.weight) c.reported.view_is in
    let more = cost_more (λ (b : Bor BaseSignal). b.now) c.args.base.now c.loop-reported.reported-index c.reported-item.result c.reported-item.result c.reported-item.is (omega arith) in
    omega (arith, weight, more, c.loop-reported.invariant, c.if-weight-left.false, c.from-weight.ensures)
