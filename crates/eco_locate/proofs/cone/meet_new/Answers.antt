-- The gate is marked, and goes onto both lists.
use Rattle.std.proofs.Common.{true, refl}
use Rattle.std.specs.Vec.{with_item}
use Rattle.eco_locate.specs.declared.cone.Cone.{Cone}
use Rattle.eco_locate.proofs.RankingLemmas.{met_new}
use Rattle.eco_locate.proofs.cone.meet_new.Goals as goal

pub returns : goal.returns
returns c =
    let old = c.args.cone.now in
    let new : Cone = record { seen = with_item old.seen c.args.number true; met = c.push.new.self; waiting = c.push-2.new.self } in
    met_new old new c.args.number c.requires.new refl c.in_ok-push.ensures.items c.in_ok-push-2.ensures.items c.requires.stands
