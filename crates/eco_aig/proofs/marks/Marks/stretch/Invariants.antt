-- What was added is what all nodes have at first.
use Rattle.std.proofs.Common.{◌≡◌, ℕ, ◌≤◌, length}
use Rattle.eco_aig.specs.Marks.{mark_at}
use Rattle.eco_aig.proofs.marks.Marks.stretch.Given as goal

abbrev pub invariant-loop-more : goal.invariant-loop-more
invariant-loop-more g l = record {
  kept : (k : ℕ) → mark_at (record { first = l.self-inside.first; marks = l.self-inside.marks.items }) k ≡ mark_at l.fn.self k;
  first : l.self-inside.first ≡ l.fn.self.first;
  reach : l._more ≤ length l.self-inside.marks.items;
}
