-- What is meant by: there is only one greedy base.
use Rattle.std.specs.Prelude.{◌≡◌, ℕ, List}
use Rattle.eco_meaning.specs.Circuit.{Circuit}
use Rattle.eco_meaning.specs.Meaning.{Goal}
use Rattle.eco_meaning.specs.Cost.{Weights}
use Rattle.eco_meaning.specs.Choice.{IsGreedyBase}

-- two greedy bases of one target, the same signals being paid, are one list
abbrev pub HasOneGreedyBase : Type 0
HasOneGreedyBase =
    (f : Circuit) (goal : Goal) (w : Weights) (input_weight : ℕ) (p : Circuit) (earlier : List (List ℕ)) (target : List ℕ) (paid kept other : List (List ℕ)) →
    IsGreedyBase f goal w input_weight p earlier target paid kept → IsGreedyBase f goal w input_weight p earlier target paid other → kept ≡ other
