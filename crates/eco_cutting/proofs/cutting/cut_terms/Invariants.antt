-- The inputs so far.
use Rattle.std.proofs.Common.{◌≡◌, map, take}
use Rattle.eco_meaning.specs.Circuit.{names}
use Rattle.eco_netlist.specs.Netlists.{named_term}
use Rattle.eco_cutting.specs.Cuts.{read_operand}
use Rattle.eco_cutting.proofs.cutting.cut_terms.Given as goal

abbrev pub invariant-loop-term : goal.invariant-loop-term
invariant-loop-term l = l.operands.items ≡ map (read_operand l.cuts) (map (named_term (names l.f)) (take l.term-index l.terms))
