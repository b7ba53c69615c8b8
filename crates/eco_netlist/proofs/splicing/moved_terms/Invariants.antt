use Rattle.std.proofs.Common.{◌≡◌, map, take}
use Rattle.eco_netlist.specs.Numbering.{term_at}
use Rattle.eco_netlist.proofs.splicing.moved_terms.Given as goal

abbrev pub invariant-loop-term : goal.invariant-loop-term
invariant-loop-term l = l.moved.items ≡ map (term_at l.nets) (take l.term-index l.terms)
