-- With what is left of the batch the lists are whole.
use Rattle.std.proofs.Common.{◌≡◌, ℕ, not, ◌++◌, drop}
use Rattle.eco_gates.specs.Words.{is_set}
use Rattle.eco_lanes.specs.Mended.{chosen}
use Rattle.eco_lanes.proofs.sifting.part.Given as goal

abbrev pub invariant-loop-place : goal.invariant-loop-place
invariant-loop-place l =
    (l.sifted.left.items ++ chosen (is_set l.word) l.place (drop l.place l.batch) ≡ l.initial.sifted.left.items ++ chosen (is_set l.word) 0 l.batch)
    × (l.sifted.taken.items ++ chosen (λ (place : ℕ). not (is_set l.word place)) l.place (drop l.place l.batch)
    ≡ l.initial.sifted.taken.items ++ chosen (λ (place : ℕ). not (is_set l.word place)) 0 l.batch)
