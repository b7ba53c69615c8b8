-- The account stays one of whatever target it is of.
use Rattle.eco_base.specs.Targets.{TargetValue}
use Rattle.eco_least.specs.Rows.{IsAccount}
use Rattle.eco_least.proofs.account.add_rows.Given as goal

abbrev pub invariant-loop-pair : goal.invariant-loop-pair
invariant-loop-pair l = (t : TargetValue) → IsAccount t l.weighed l.initial.account → IsAccount t l.weighed l.account
