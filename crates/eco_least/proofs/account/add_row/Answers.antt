-- One row more.
use Rattle.std.proofs.Common.{sym, subst}
use Rattle.std.specs.Option.{IfSome}
use Rattle.eco_least.specs.Rows.{AreRows, IsRow}
use Rattle.eco_least.proofs.AccountLaws.{more_rows}
use Rattle.eco_least.proofs.account.add_row.Goals as goal

pub returns-in_ok-push-in-Some : goal.returns-in_ok-push-in-Some
returns-in_ok-push-in-Some c t account =
    let weighed = c.args.weighed.now in
    record {
      known = account.known;
      ones = account.ones;
      zeros = account.zeros;
      rows = subst (AreRows t weighed) (sym c.in_ok-push-in-Some.ensures.items)
          (more_rows t weighed c.args.account.now.rows.items c.in-Some.row account.rows (subst (λ found. IfSome found (IsRow t weighed)) c.in-Some.is (c.in_ok-row.ensures t account)));
    }
