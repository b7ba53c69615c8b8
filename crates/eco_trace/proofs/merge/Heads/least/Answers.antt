use Rattle.std.proofs.Common.{arith}
use Rattle.eco_trace.proofs.MergeLaws.{least_left_at, least_right_at, none_below, from_first}
use Rattle.eco_trace.proofs.merge.Heads.least.Goals as goal

pub returns-in_ok-lit-in-None : goal.returns-in_ok-lit-in-None
returns-in_ok-lit-in-None c =
    least_right_at _ _ _ _ c.in_ok-lit-in-None.ensures.cases.0 c.requires.left c.requires.right
    (none_below _ _ c.in-None.ensures.cases)

pub returns-in-None-split_first : goal.returns-in-None-split_first
returns-in-None-split_first c =
    least_left_at _ _ _ _ c.in-Some.ensures.cases.0 c.requires.left c.requires.right
    (none_below _ _ c.in-None-split_first.ensures.cases)

pub returns-then-other-one : goal.returns-then-other-one
returns-then-other-one c =
    least_right_at _ _ _ _ c.in-Some-split_first.ensures.cases.0 c.requires.left c.requires.right
    (from_first _ _ _ _ c.in-Some.ensures.cases.0 c.requires.left (omega arith))

pub returns-else-other-one : goal.returns-else-other-one
returns-else-other-one c =
    least_left_at _ _ _ _ c.in-Some.ensures.cases.0 c.requires.left c.requires.right
    (from_first _ _ _ _ c.in-Some-split_first.ensures.cases.0 c.requires.right c.if-other-one.false)
