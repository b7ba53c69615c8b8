use Rattle.std.proofs.Common.{take}
use Rattle.std.specs.List.{All}
use Rattle.eco_splice.specs.LineGates.{StandsBefore}
use Rattle.eco_splice.proofs.readiness.stand_before.Given as goal

abbrev pub invariant-loop-operand : goal.invariant-loop-operand
invariant-loop-operand l = All (StandsBefore l.places.edges.items l.place) (take l.operand-index l.operands)
