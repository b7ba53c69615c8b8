-- The classes of rows that agree on the columns so far.
use Rattle.std.proofs.Common.{◌++◌, length, take}
use Rattle.std.specs.List.{Contains}
use Rattle.eco_cover.specs.Classes.{AreAlike, AreClasses}
use Rattle.eco_cover.proofs.classes.classes_by.Given as goal

abbrev pub invariant-loop-column : goal.invariant-loop-column
invariant-loop-column l =
    AreClasses (length (l.ones ++ l.zeros)) (AreAlike (Contains (take l.column-index l.columns)) (l.ones ++ l.zeros)) l.classes.items
