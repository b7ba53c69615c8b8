-- The account is one of whatever target it was of.
use Rattle.std.proofs.Common.{IfOk, Ok, Err}
use Rattle.eco_least.specs.Rows.{IsAccount}
use Rattle.eco_least.proofs.lists.light_set.Goals as goal

pub returns : goal.returns
returns c t is =
    elim c.lightest_of-2.result as (λ r. IfOk r (λ _. IsAccount t c.args.weighed.now c.loop.account)) [
      | Ok set ↦ c.loop.invariant t is
      | Err error ↦ tt
    ]
