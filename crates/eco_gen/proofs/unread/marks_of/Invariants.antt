use Rattle.std.proofs.Common.{◌≡◌, ℕ, ◌<◌, false, length}
use Rattle.std.specs.List.{slice_index_or}
use Rattle.eco_gen.specs.Drawn.{is_read}
use Rattle.eco_gen.proofs.unread.marks_of.Given as goal

abbrev pub invariant-loop-gate : goal.invariant-loop-gate
invariant-loop-gate l = record {
  len : length l.marks.items ≡ l.draws.size;
  marked : (k : ℕ) → k < l.draws.size → slice_index_or l.marks.items k false ≡ is_read l.draws.seed l.gate k;
}
