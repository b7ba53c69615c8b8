-- The part's clauses so far are there.
use Rattle.eco_accept.proofs.Parts.{AreBefore}
use Rattle.eco_accept.proofs.part.add_part.Given as goal

abbrev pub invariant-loop-number : goal.invariant-loop-number
invariant-loop-number l = AreBefore l.cnf.clauses (record { clauses = l.trace.originals; marks = l.side }) l.part l.number
