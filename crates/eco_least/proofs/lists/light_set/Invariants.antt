-- The account stays one of whatever target it is of.
use Rattle.eco_base.specs.Targets.{TargetValue}
use Rattle.eco_least.specs.Rows.{IsAccount}
use Rattle.eco_least.proofs.lists.light_set.Given as goal

abbrev pub invariant-loop : goal.invariant-loop
invariant-loop l = (t : TargetValue) → IsAccount t l.weighed l.initial.account → IsAccount t l.weighed l.account
