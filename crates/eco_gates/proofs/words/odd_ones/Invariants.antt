-- The bits of the terms so far.
use Rattle.std.proofs.Common.{◌≡◌, ◌<◌, ℕ, map, take}
use Rattle.eco_meaning.specs.Gates.{is_odd}
use Rattle.eco_gates.specs.Evaluation.{term_value}
use Rattle.eco_gates.specs.Words.{is_set, lane}
use Rattle.eco_gates.proofs.words.odd_ones.Given as goal

abbrev pub invariant-loop-term : goal.invariant-loop-term
invariant-loop-term l = (place : ℕ) → place < 64 → is_set l.word place ≡ is_odd (map (term_value (lane l.words place)) (take l.term-index l.terms))
