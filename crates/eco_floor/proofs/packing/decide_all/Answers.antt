-- One more decision.
use Rattle.std.proofs.Common.{get_or, arith}
use Rattle.std.proofs.lemmas.Option.{slice_get-get_or}
use Rattle.eco_lists.proofs.Places.{Contains_at}
use Rattle.eco_floor.specs.declared.decision.Decision.TheVariants.{Taken}
use Rattle.eco_floor.proofs.Packed.{packed_decided}
use Rattle.eco_floor.proofs.packing.decide_all.Goals as goal

pub loop-decision-preserved : goal.loop-decision-preserved
loop-decision-preserved c rows weights packed =
    let decisions = c.args.decisions.now in
    let k = c.loop-decision.decision-index in
    let decision = get_or decisions k (Taken 0) in
    let in' = Contains_at decisions k decision (slice_get-get_or decisions k (Taken 0) c.loop-decision-test.true) in
    packed_decided rows weights decisions c.loop-decision.slack.items c.decide.new.slack.items c.loop-decision.sum c.saturating_add-sum.result c.decide.result decision in' c.decide.ensures
    (omega (arith, c.saturating_add-sum.ensures, c.from.ensures)) (c.loop-decision.invariant rows weights packed)
