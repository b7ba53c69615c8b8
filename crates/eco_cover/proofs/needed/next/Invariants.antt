-- The classes of rows that agree on the columns in play so far, and two rows of both kinds that do.
use Rattle.std.proofs.Common.{◌++◌, length}
use Rattle.eco_laws.specs.Columns.{IsInPlay}
use Rattle.eco_cover.specs.Classes.{AreAlike, AreClasses, ShowsAlike}
use Rattle.eco_cover.proofs.needed.next.Given as goal

abbrev pub invariant-loop-column : goal.invariant-loop-column
invariant-loop-column l = record {
  classes : AreClasses (length (l.ones ++ l.zeros)) (AreAlike (IsInPlay l.fn.fixed l.column) (l.ones ++ l.zeros)) l.classes.items;
  shown : ShowsAlike l.fn.fixed l.column l.ones l.zeros l.alike;
}
