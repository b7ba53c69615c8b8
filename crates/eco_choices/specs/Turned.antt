-- Single nets at one input: a net is turned by giving it the opposite of its gate's value. Whether the outputs are then those
-- that are asked for tells whether cutting the net helps at this input.
use Rattle.std.specs.Prelude.{◌≡◌, ◌≢◌, ◌↔◌, ℕ, Bool, true, false, not, List, [], ◌∷◌, map, Contains}
use Rattle.eco_meaning.specs.Gates.{apply}
use Rattle.eco_meaning.specs.Circuit.{Circuit, NamedGate, Values, names, value_of, IsConsistent, AgreeOn, IsTarget}
use Rattle.eco_meaning.specs.Meaning.{Goal, IsCared, IsWrong}
use Rattle.eco_laws.specs.Sound.{IsSound}
use Rattle.eco_laws.specs.Kept.{CaresForInputs}
use Rattle.eco_choices.specs.Choices.{HasAskedOutputs, IsWrongBut}

-- each gate's output has its value, but the gate that drives this net gives the opposite of its own
pub record IsTurned (f : Circuit) (net : List ℕ) (v : Values) : Type 0 where
  pub others : (g : NamedGate) → Contains f.gates g → g.out ≢ net → v g.out ≡ apply g.kind (map (value_of v) g.terms)
  pub turned : (g : NamedGate) → Contains f.gates g → g.out ≡ net → v g.out ≡ not (apply g.kind (map (value_of v) g.terms))

-- some values have the net turned at the input x
abbrev pub CanBeTurned : Circuit → List Bool → List ℕ → Type 0
CanBeTurned f x net = (v : Values) × IsTurned f net v × (map v f.inputs ≡ x)

-- the bit is 1 exactly if all outputs are as wanted at the input x with the net turned
abbrev pub IsMendedBit : Circuit → List Bool → List Bool → List ℕ → Bool → Type 0
IsMendedBit f x wanted net bit =
    (v : Values) → IsTurned f net v → map v f.inputs ≡ x → (bit ≡ true) ↔ (map v f.outputs ≡ wanted)

-- no other outputs than the wanted ones are right at the input x
abbrev pub AreAsked : Circuit → Goal → List Bool → List Bool → Type 0
AreAsked f goal x wanted = (v : Values) → map v f.inputs ≡ x → HasAskedOutputs f goal v → map v f.outputs ≡ wanted

-- a wrong input is wrong with the net cut, if the outputs with the net turned aren't those that are asked for
abbrev pub TurnedIsWrongBut : Type 0
TurnedIsWrongBut =
    (f : Circuit) (goal : Goal) (net : List ℕ) (x : List Bool) → IsSound f → IsWrong f goal x →
    ((v : Values) → IsTurned f net v → map v f.inputs ≡ x → HasAskedOutputs f goal v → ⊥) → IsWrongBut f goal (net ∷ []) x

-- so it is if the net's bit is 0
abbrev pub UnmendedIsWrongBut : Type 0
UnmendedIsWrongBut =
    (f : Circuit) (goal : Goal) (net : List ℕ) (x wanted : List Bool) → IsSound f → IsWrong f goal x → AreAsked f goal x wanted →
    IsMendedBit f x wanted net false → IsWrongBut f goal (net ∷ []) x

-- an input of a netlist without targets determines all nets while one is turned
abbrev pub TurnedMapsAgree : Type 0
TurnedMapsAgree =
    (f : Circuit) (net : List ℕ) (v u : Values) → IsSound f → ((name : List ℕ) → IsTarget f name → ⊥) →
    IsTurned f net v → IsTurned f net u → AgreeOn f.inputs v u → AgreeOn (names f) v u

-- the outputs that the specification has at a cared input are those that are asked for there
abbrev pub SpecificationIsAsked : Type 0
SpecificationIsAsked =
    (f : Circuit) (goal : Goal) (u : Values) → CaresForInputs f goal → IsConsistent goal.spec u → IsCared goal.care u →
    AreAsked f goal (map u f.inputs) (map u f.outputs)

-- an input at which a netlist without targets has other outputs is wrong
abbrev pub OtherOutputsAreWrong : Type 0
OtherOutputsAreWrong =
    (f : Circuit) (goal : Goal) (v : Values) (wanted : List Bool) → IsSound f → ((name : List ℕ) → IsTarget f name → ⊥) →
    IsConsistent f v → AreAsked f goal (map v f.inputs) wanted → map v f.outputs ≢ wanted → IsWrong f goal (map v f.inputs)
