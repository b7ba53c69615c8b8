use Rattle.std.proofs.Common.{◌≡◌, take, map}
use Rattle.eco_splice.specs.LineGates.{line_term}
use Rattle.eco_splice.proofs.line_gates.line_terms.Given as goal

abbrev pub invariant-loop-operand : goal.invariant-loop-operand
invariant-loop-operand l = l.terms.items ≡ map (line_term l.nets.places.now.edges.items l.nets.names.now) (take l.operand-index l.operands)
