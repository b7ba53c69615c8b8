-- One more operand stands before the place.
use Rattle.std.proofs.Common.{false, refl, arith}
use Rattle.eco_splice.specs.LineGates.{StandsBefore}
use Rattle.eco_splice.proofs.TableLemmas.{all_more, all_end}
use Rattle.eco_splice.proofs.readiness.stand_before.Goals as goal

pub loop-operand-preserved : goal.loop-operand-preserved
loop-operand-preserved c =
    all_more (StandsBefore c.args.places.now.edges.items c.args.place) c.args.operands.now c.loop-operand.operand-index (record { node = 0; complemented = false }) (omega arith) c.loop-operand.invariant (c.stands_before.ensures.0 c.if-not-stands_before.false)

pub returns : goal.returns
returns c = (
  λ is. all_end (StandsBefore c.args.places.now.edges.items c.args.place) c.args.operands.now c.loop-operand.operand-index (omega arith) c.loop-operand.invariant,
  λ all. refl,
)
