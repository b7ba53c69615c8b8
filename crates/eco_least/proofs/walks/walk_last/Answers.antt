-- The account stays one of the target.
use Rattle.eco_least.proofs.walks.walk_last.Goals as goal

pub returns-clause-account : goal.returns-clause-account
returns-clause-account g c =
    let account = c.requires.account in
    record {
      known = c.walk.ensures.known;
      ones = account.ones;
      zeros = account.zeros;
      rows = account.rows;
    }
