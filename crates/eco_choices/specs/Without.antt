-- A netlist without the gates of some nets, in which these nets are targets.
use Rattle.std.specs.Prelude.{◌↔◌, ℕ, Bool, List, not, filter}
use Rattle.eco_meaning.specs.Names.{has}
use Rattle.eco_meaning.specs.Circuit.{Circuit}
use Rattle.eco_meaning.specs.Meaning.{Goal, IsWrong, IsRectifiable}
use Rattle.eco_laws.specs.Sound.{IsSound}
use Rattle.eco_choices.specs.Choices.{IsWrongBut, IsChoice}

-- f without the gates that drive these nets
abbrev pub without : Circuit → List (List ℕ) → Circuit
without f nets = record f { gates = filter (λ g. not (has nets g.out)) f.gates }

-- it is sound if f is
abbrev pub WithoutIsSound : Type 0
WithoutIsSound = (f : Circuit) (nets : List (List ℕ)) → IsSound f → IsSound (without f nets)

-- it is wrong exactly at the inputs at which f is wrong but for these nets
abbrev pub WrongWithoutIsWrongBut : Type 0
WrongWithoutIsWrongBut =
    (f : Circuit) (goal : Goal) (nets : List (List ℕ)) (x : List Bool) → IsWrong (without f nets) goal x ↔ IsWrongBut f goal nets x

-- so it can be rectified exactly if the nets are a choice
abbrev pub WithoutIsRectifiable : Type 0
WithoutIsRectifiable =
    (f : Circuit) (goal : Goal) (nets : List (List ℕ)) → IsRectifiable (without f nets) goal ↔ IsChoice f goal nets
