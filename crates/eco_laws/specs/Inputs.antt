-- The inputs of an implementation as signals that a target's function may read.
use Rattle.std.specs.Prelude.{ℕ, List, ◌++◌, Contains}
use Rattle.eco_meaning.specs.Circuit.{Circuit}
use Rattle.eco_meaning.specs.Meaning.{Goal}
use Rattle.eco_meaning.specs.Cost.{Weights, IsCandidate, AreTurns}
use Rattle.eco_meaning.specs.Choice.{IsKept, Suffices}
use Rattle.eco_laws.specs.Sound.{IsSound}

-- each input is a candidate of each target: it has a weight, and lies behind no target
abbrev pub InputsAreCandidates : Type 0
InputsAreCandidates =
    (f : Circuit) (w : Weights) (input_weight : ℕ) (earlier : List (List ℕ)) (input : List ℕ) →
    IsSound f → Contains f.inputs input → IsCandidate f w input_weight earlier input

-- where no input is lost, the inputs suffice
abbrev pub InputsSuffice : Type 0
InputsSuffice =
    (f : Circuit) (goal : Goal) (p : Circuit) (earlier : List (List ℕ)) (target : List ℕ) →
    IsKept f goal p earlier → Suffices f goal p earlier target (Contains f.inputs)

-- so do all candidates, paid or not
abbrev pub CandidatesSuffice : Type 0
CandidatesSuffice =
    (f : Circuit) (goal : Goal) (w : Weights) (input_weight : ℕ) (p : Circuit) (earlier : List (List ℕ)) (target : List ℕ) (paid turns : List (List ℕ)) →
    IsSound f → AreTurns f w input_weight earlier paid turns → IsKept f goal p earlier →
    Suffices f goal p earlier target (Contains (paid ++ turns))
