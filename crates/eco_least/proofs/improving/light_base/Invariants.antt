-- The account is one of the target, which stays what it is.
use Rattle.std.proofs.Common.{◌≡◌}
use Rattle.eco_least.specs.Rows.{IsAccount}
use Rattle.eco_least.specs.Weighed.{AreWeighed}
use Rattle.eco_least.proofs.improving.light_base.Given as goal

abbrev pub invariant-loop : goal.invariant-loop
invariant-loop g l = record {
  weighed : AreWeighed l.target l.weighed;
  account : IsAccount l.target l.weighed l.account;
  stays : l.target ≡ l.initial.target;
}
