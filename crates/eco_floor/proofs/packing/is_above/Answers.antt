-- One more row.
use Rattle.std.proofs.Common.{sym}
use Rattle.std.specs.List.{Contains}
use Rattle.eco_floor.proofs.Packed.{none_left, packed_row}
use Rattle.eco_floor.proofs.packing.is_above.Goals as goal

pub returns-in-None : goal.returns-in-None
returns-in-None c _ weights decisions packed =
    let rows = c.args.rows.now in
    let in' : Contains rows c.in-Some.row.now = (_, c.in-Some.ensures.lookup.3.0, sym c.in-Some.ensures.lookup.1) in
    none_left rows weights decisions c.loop-share.slack.items c.loop-share.sum c.args.best c.in-Some.row.now in' c.in-None.ensures (c.loop-share.invariant weights decisions packed)

pub loop-share-preserved : goal.loop-share-preserved
loop-share-preserved c weights decisions packed =
    let rows = c.args.rows.now in
    let in' : Contains rows c.in-Some.row.now = (_, c.in-Some.ensures.lookup.3.0, sym c.in-Some.ensures.lookup.1) in
    packed_row rows weights decisions c.loop-share.slack.items c.pack.new.slack.items c.loop-share.sum c.in-Some-pack.more c.in-Some.row.now in' c.in-Some-pack.ensures (c.loop-share.invariant weights decisions packed)
