-- The nodes so far are marked.
use Rattle.std.proofs.Common.{◌≡◌, ◌↔◌, ◌⊎◌, ℕ, length, take}
use Rattle.eco_trace.specs.Core.{IsSet, Names}
use Rattle.eco_trace.proofs.reach.mark_named.Given as goal

abbrev pub invariant-loop-link : goal.invariant-loop-link
invariant-loop-link l = record {
  count : length l.marks.items ≡ length l.fn.marks.items;
  marked : (k : ℕ) → IsSet l.marks.items k ↔ (IsSet l.fn.marks.items k ⊎ Names l.fn.start (take l.link-index l.links) k);
}
