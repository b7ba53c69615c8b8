-- When a netlist without targets does what is asked.
use Rattle.std.specs.Prelude.{Bool, List}
use Rattle.eco_query.specs.Problem.{IsClosed}
use Rattle.eco_meaning.specs.Circuit.{Circuit}
use Rattle.eco_meaning.specs.Meaning.{Goal, IsWrong, IsEquivalent}
use Rattle.eco_laws.specs.Sound.{IsSound}
use Rattle.eco_laws.specs.Kept.{CaresForInputs}

-- where no input is wrong, it has the outputs that are asked for
abbrev pub NoneWrongIsEquivalent : Type 0
NoneWrongIsEquivalent =
    (n : Circuit) (goal : Goal) → IsSound n → IsClosed n → CaresForInputs n goal →
    ((x : List Bool) → IsWrong n goal x → ⊥) → IsEquivalent n goal

-- where it has them, no input is wrong
abbrev pub EquivalentHasNoneWrong : Type 0
EquivalentHasNoneWrong =
    (n : Circuit) (goal : Goal) → IsSound n → IsEquivalent n goal →
    (x : List Bool) → IsWrong n goal x → ⊥
