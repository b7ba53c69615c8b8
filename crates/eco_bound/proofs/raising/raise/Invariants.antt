-- The account is one of the problem, the target stays what it is, and fewer candidates have some left after each part.
use Rattle.std.proofs.Common.{◌≡◌}
use Rattle.eco_bound.specs.Accounts.{IsAccount, some_left}
use Rattle.eco_bound.specs.Lower.{IsFirst}
use Rattle.eco_bound.proofs.raising.raise.Given as goal

abbrev pub invariant-parts : goal.invariant-parts
invariant-parts g l = record {
  first : IsFirst l.target;
  account : IsAccount l.target.problem l.account;
  stays : l.target ≡ l.initial.target;
}

abbrev pub decreases-parts : goal.decreases-parts
decreases-parts g l = some_left l.account.payers.items
