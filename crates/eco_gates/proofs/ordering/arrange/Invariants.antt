-- No gate so far is new, and the stack is empty.
use Rattle.std.proofs.Common.{◌≡◌, ◌≢◌, ℕ, ◌<◌, [], Some}
use Rattle.std.specs.List.{slice_get}
use Rattle.eco_gates.specs.declared.walk.Mark.TheVariants.{New}
use Rattle.eco_gates.specs.Step.{IsWalkState}
use Rattle.eco_gates.proofs.ordering.arrange.Given as goal

abbrev pub invariant-loop-root : goal.invariant-loop-root
invariant-loop-root l = record {
  stands : IsWalkState l.gates l.drivers.items l.walk;
  empty : l.walk.stack.items ≡ [];
  walked : (i : ℕ) → i < l.root → slice_get l.walk.marks.items i ≢ Some New;
}
