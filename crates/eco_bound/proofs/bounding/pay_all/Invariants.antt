-- The account is one of the problem.
use Rattle.eco_bound.specs.Accounts.{IsAccount}
use Rattle.eco_bound.proofs.bounding.pay_all.Given as goal

abbrev pub invariant-loop-signal : goal.invariant-loop-signal
invariant-loop-signal l = IsAccount l.problem l.account
