-- One more signal costs its weight more.
use Rattle.std.proofs.Common.{◌≡◌, ◌∙◌, get_or, ap, arith}
use Rattle.eco_meaning.specs.Report.{BaseSignal}
use Rattle.eco_targets.proofs.GroupLists.{cost_more}
use Rattle.eco_targets.proofs.cost.group_cost.Goals as goal

pub loop-signal-preserved : goal.loop-signal-preserved
loop-signal-preserved c =
    let list = c.args.base.now in
    let i = c.loop-signal.signal-index in
    let more = cost_more list i c.signal-item.result (omega arith) in
    let weight : c.widened-cost.result ≡ (get_or list i c.signal-item.result).weight =
    c.widened-cost.ensures.value ∙ ap (λ (b : BaseSignal). b.weight) (c.signal.view_is ∙ c.signal-item.is) in
    let small = c.widened-cost.ensures.bound in
    let cost = c.loop-signal.invariant.cost in
    let bound = c.loop-signal.invariant.bound in
    record { cost = omega (arith, more, weight, cost); bound = omega (arith, small, bound) }
