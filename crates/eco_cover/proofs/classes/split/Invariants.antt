-- The classes of the rows so far, and the other first rows among them.
use Rattle.std.proofs.Common.{◌≡◌, ℕ, Some, length}
use Rattle.std.specs.List.{slice_get}
use Rattle.eco_cover.specs.Classes.{AreFirstOthers, AreTogether, IsFirst}
use Rattle.eco_cover.proofs.classes.split.Given as goal

abbrev pub invariant-loop-row : goal.invariant-loop-row
invariant-loop-row l = record {
  others : AreFirstOthers l.classes l.bits l.row l.others.items;
  count : length l.split.items ≡ l.row;
  firsts : (k first : ℕ) → slice_get l.split.items k ≡ Some first → IsFirst (length l.classes) (AreTogether l.classes l.bits) k first;
}
