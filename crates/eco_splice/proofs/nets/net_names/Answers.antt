use Rattle.std.proofs.Common.{◌+◌, refl, arith, append_assoc}
use Rattle.eco_splice.proofs.Ranges.{wires_from_more}
use Rattle.eco_splice.proofs.nets.net_names.Goals as goal

pub loop-before-preserved : goal.loop-before-preserved
loop-before-preserved c =
    let more = wires_from_more c.args.frame.now.prefix.now 1 c.loop-before.before (c.loop-before.before + 1) (omega arith) in
    rw (c.in_ok-push.ensures.items, c.loop-before.invariant, c.in_ok-numbered.ensures, more, append_assoc) refl
