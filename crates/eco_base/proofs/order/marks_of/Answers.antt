-- One more net is marked.
use Rattle.std.proofs.Common.{arith}
use Rattle.std.proofs.lemmas.Option.{slice_get-get_or}
use Rattle.eco_gates.proofs.Reaching.{marked_more}
use Rattle.eco_base.proofs.order.marks_of.Goals as goal

pub loop-net-preserved : goal.loop-net-preserved
loop-net-preserved c =
    marked_more c.args.count c.args.nets.now c.loop-net.net-index c.loop-net.marks.items _ c.requires (slice_get-get_or c.args.nets.now c.loop-net.net-index _ (omega arith)) c.loop-net.invariant
