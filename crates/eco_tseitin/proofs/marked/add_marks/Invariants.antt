-- So many marks stand behind the others.
use Rattle.std.proofs.Common.{◌≡◌, ◌++◌, replicate}
use Rattle.eco_tseitin.proofs.marked.add_marks.Given as goal

abbrev pub invariant-loop : goal.invariant-loop
invariant-loop l = l.marks.items ≡ l.fn.marks.items ++ replicate l.counter l.mark
