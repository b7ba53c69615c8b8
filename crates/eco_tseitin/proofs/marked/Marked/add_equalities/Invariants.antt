use Rattle.std.proofs.Common.{length, take}
use Rattle.eco_tseitin.specs.Joined.{equalities}
use Rattle.eco_tseitin.specs.Marking.{Adds}
use Rattle.eco_tseitin.proofs.marked.Marked.add_equalities.Given as goal

abbrev pub invariant-loop-left : goal.invariant-loop-left
invariant-loop-left l = Adds l.fn.self l.self (equalities (take (length l.yielded) l.lefts) (take (length l.yielded) l.rights)) l.mark
