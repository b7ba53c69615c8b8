use Rattle.std.proofs.Common.{map, filter}
use Rattle.eco_prooftext.specs.TraceFile.{is_word, AreNumbers}
use Rattle.eco_prooftext.proofs.trace_line.numbers_of.Given as goal

-- the numbers of the pieces so far
abbrev pub invariant-loop-piece : goal.invariant-loop-piece
invariant-loop-piece l = record {
  can : (goal.iterator-loop-piece).can_next l.piece-iterator;
  finite : (goal.iterator-loop-piece).is_finite l.piece-iterator;
  taken : AreNumbers (filter is_word (map (λ piece. piece.now) l.yielded)) l.numbers.items;
}
