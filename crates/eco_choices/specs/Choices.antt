-- When a netlist can be mended by cutting nets: what is wrong whatever values these nets have, and the choices of nets with
-- which nothing is.
use Rattle.std.specs.Prelude.{◌≡◌, ◌↔◌, ℕ, Bool, List, [], length, map, All, Contains}
use Rattle.eco_meaning.specs.Gates.{apply}
use Rattle.eco_meaning.specs.Circuit.{Circuit, NamedGate, Values, value_of, IsConsistent, AgreeOn}
use Rattle.eco_meaning.specs.Meaning.{Goal, IsCared, IsWrong}

-- each gate's output has the value of its kind at its inputs, but for the gates that drive these nets
abbrev pub IsConsistentBut : Circuit → List (List ℕ) → Values → Type 0
IsConsistentBut f nets v =
    (g : NamedGate) → Contains f.gates g → (Contains nets g.out → ⊥) → v g.out ≡ apply g.kind (map (value_of v) g.terms)

-- if f's inputs are cared in v, the specification gives on them the outputs that v has
abbrev pub HasAskedOutputs : Circuit → Goal → Values → Type 0
HasAskedOutputs f goal v =
    IsCared goal.care v → (u : Values) → IsConsistent goal.spec u → AgreeOn f.inputs v u → AgreeOn f.outputs v u

-- the input x, one bit for each input of f, is one at which no values of these nets help
pub record IsWrongBut (f : Circuit) (goal : Goal) (nets : List (List ℕ)) (x : List Bool) : Type 0 where
  pub len : length x ≡ length f.inputs
  pub never : (v : Values) → IsConsistentBut f nets v → map v f.inputs ≡ x → HasAskedOutputs f goal v → ⊥

-- f can be mended by cutting these nets: at each input some values of them help
abbrev pub IsChoice : Circuit → Goal → List (List ℕ) → Type 0
IsChoice f goal nets = (x : List Bool) → IsWrongBut f goal nets x → ⊥

-- an input is wrong with no net cut exactly if it is wrong
abbrev pub WrongButNoneIsWrong : Type 0
WrongButNoneIsWrong = (f : Circuit) (goal : Goal) (x : List Bool) → IsWrongBut f goal [] x ↔ IsWrong f goal x

-- what is wrong with nets cut is wrong with a part of them cut
abbrev pub WrongButIsWrongButPart : Type 0
WrongButIsWrongButPart =
    (f : Circuit) (goal : Goal) (nets part : List (List ℕ)) (x : List Bool) → All (Contains nets) part →
    IsWrongBut f goal nets x → IsWrongBut f goal part x
