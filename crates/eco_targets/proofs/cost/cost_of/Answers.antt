-- One more group costs what its signals do, of which there are no more than in all groups.
use Rattle.std.proofs.Common.{◌≡◌, ◌∙◌, length, get_or, ap, arith}
use Rattle.eco_meaning.specs.Report.{TargetGroup, cost_of}
use Rattle.eco_targets.proofs.GroupLists.{group_more, count_more, count_within}
use Rattle.eco_targets.proofs.cost.cost_of.Goals as goal

pub group_cost-cost-requires : goal.group_cost-cost-requires
group_cost-cost-requires c =
    let groups = c.args.groups.now in
    let i = c.loop-group.group-index in
    let d = c.group-item.result in
    let within = count_within groups i d (omega arith) in
    let count : length c.as_slice.result.now ≡ length (get_or groups i d).base =
    ap length (c.as_slice.ensures.value ∙ ap (λ (g : TargetGroup). g.base) (c.group.view_is ∙ c.group-item.is)) in
    let all = c.requires in
    omega (arith, within, count, all)

pub overflow_add-cost : goal.overflow_add-cost
overflow_add-cost c =
    let groups = c.args.groups.now in
    let i = c.loop-group.group-index in
    let d = c.group-item.result in
    let within = count_within groups i d (omega arith) in
    let count : length c.as_slice.result.now ≡ length (get_or groups i d).base =
    ap length (c.as_slice.ensures.value ∙ ap (λ (g : TargetGroup). g.base) (c.group.view_is ∙ c.group-item.is)) in
    let all = c.requires in
    let bound = c.loop-group.invariant.bound in
    let more = c.group_cost-cost.ensures.bound in
    omega (arith, within, count, all, bound, more)

pub loop-group-preserved : goal.loop-group-preserved
loop-group-preserved c =
    let groups = c.args.groups.now in
    let i = c.loop-group.group-index in
    let d = c.group-item.result in
    let base : c.as_slice.result.now ≡ (get_or groups i d).base =
    c.as_slice.ensures.value ∙ ap (λ (g : TargetGroup). g.base) (c.group.view_is ∙ c.group-item.is) in
    let count : length c.as_slice.result.now ≡ length (get_or groups i d).base = ap length base in
    let cost : c.group_cost-cost.result ≡ cost_of (get_or groups i d).base = c.group_cost-cost.ensures.cost ∙ ap cost_of base in
    let more = group_more groups i d (omega arith) in
    let longer = count_more groups i d (omega arith) in
    let before = c.loop-group.invariant.cost in
    let bound = c.loop-group.invariant.bound in
    let last = c.group_cost-cost.ensures.bound in
    record { cost = omega (arith, more, cost, before); bound = omega (arith, longer, count, bound, last) }
