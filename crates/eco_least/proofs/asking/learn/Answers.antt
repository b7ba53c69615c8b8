-- Two inputs more are known.
use Rattle.eco_base.specs.declared.known.Known.{Known}
use Rattle.eco_least.proofs.AccountLaws.{known_more}
use Rattle.eco_least.proofs.asking.learn.Goals as goal

pub returns-then-is_full : goal.returns-then-is_full
returns-then-is_full c = λ t weighed list account pair.
    let new : Known = record { ones = c.push.new.self; zeros = c.push-2.new.self } in
    record {
      known = known_more t list c.args.account.now.known new c.args.pair account.known pair c.in_ok-push.ensures.items c.in_ok-push-2.ensures.items;
      ones = account.ones;
      zeros = account.zeros;
      rows = account.rows;
    }

pub returns-else-is_full : goal.returns-else-is_full
returns-else-is_full c = λ t weighed list account pair.
    let new : Known = record { ones = c.push.new.self; zeros = c.push-2.new.self } in
    record {
      known = known_more t list c.args.account.now.known new c.args.pair account.known pair c.in_ok-push.ensures.items c.in_ok-push-2.ensures.items;
      ones = account.ones;
      zeros = account.zeros;
      rows = account.rows;
    }
