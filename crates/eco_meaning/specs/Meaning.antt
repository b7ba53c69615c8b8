-- When an implementation with free targets does what is asked of it.
use Rattle.std.specs.Prelude.{◌≡◌, Bool, true, List, length, map, Option, Some, None, All}
use Rattle.eco_meaning.specs.Circuit.{Circuit, Values, IsConsistent, AgreeOn}

-- What is asked of an implementation: the outputs of the specification, on the inputs that matter. The cared netlist
-- tells which these are; where there is none, all of them are.
pub record Goal : Type 0 where
  pub spec : Circuit
  pub care : Option Circuit

-- the specification's outputs are asked for on every input
abbrev pub everywhere : Circuit → Goal
everywhere g = record { spec = g; care = None }

-- the inputs that v gives are cared: on them the cared netlist has the output 1
abbrev pub IsCared : Option Circuit → Values → Type 0
IsCared None v = Unit {0}
IsCared (Some c) v = (u : Values) → IsConsistent c u → AgreeOn c.inputs v u → All (λ output. u output ≡ true) c.outputs

-- v is consistent with f, and where f's inputs are cared in it, the specification gives on them the outputs that v has
pub record IsRight (f : Circuit) (goal : Goal) (v : Values) : Type 0 where
  pub consistent : IsConsistent f v
  pub agrees : IsCared goal.care v → (u : Values) → IsConsistent goal.spec u → AgreeOn f.inputs v u → AgreeOn f.outputs v u

-- the input x, one bit for each input of f, is one at which no values of the targets help
pub record IsWrong (f : Circuit) (goal : Goal) (x : List Bool) : Type 0 where
  pub len : length x ≡ length f.inputs
  pub never : (v : Values) → IsConsistent f v → map v f.inputs ≡ x → IsRight f goal v → ⊥

-- f can be rectified: no input is wrong
abbrev pub IsRectifiable : Circuit → Goal → Type 0
IsRectifiable f goal = (x : List Bool) → IsWrong f goal x → ⊥

-- the netlist has the specification's outputs on every cared input
abbrev pub IsEquivalent : Circuit → Goal → Type 0
IsEquivalent n goal =
    (v u : Values) → IsConsistent n v → IsCared goal.care v → IsConsistent goal.spec u → AgreeOn n.inputs v u →
    AgreeOn n.outputs v u
