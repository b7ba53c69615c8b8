-- No output at first, one more, and all of them.
use Rattle.std.proofs.Common.{arith, get_or}
use Rattle.std.proofs.lemmas.Option.{slice_get-get_or}
use Rattle.eco_aig.specs.Edges.{plain}
use Rattle.eco_compile.proofs.Differing.{compared_none, compared_more}
use Rattle.eco_compile.proofs.wrong.differences.Goals as goal

pub loop-place-init : goal.loop-place-init
loop-place-init c = compared_none c.args.outputs.now c.args.wanted.now c.args.aig.now c.nodes.ensures.graph

pub loop-place-preserved : goal.loop-place-preserved
loop-place-preserved c =
    let k = c.loop-place.place in
    let outputs = c.args.outputs.now in
    let wanted = c.args.wanted.now in
    compared_more outputs wanted c.args.aig.now c.loop-place.aig c.or_unlike.new.aig k (get_or outputs k (plain 0)) (get_or wanted k (plain 0)) c.loop-place.wrong c.in_ok-wrong.wrong c.requires.count (slice_get-get_or outputs k (plain 0) (omega arith)) (slice_get-get_or wanted k (plain 0) (omega arith)) c.loop-place.invariant c.or_unlike.ensures.grows c.in_ok-wrong.ensures.value
