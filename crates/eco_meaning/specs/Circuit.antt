-- Netlists over names: what one is, which values are consistent with it, its loops and its fan-out.
use Rattle.std.specs.Prelude.{◌≡◌, ◌⊎◌, ℕ, Bool, true, false, IsTrue, List, [], ◌∷◌, ◌++◌, map, All, Contains}
use Rattle.std.specs.List.Sorted.{IsStrictlyIncreasing}
use Rattle.eco_meaning.specs.declared.kind.Kind.{Kind}
use Rattle.eco_meaning.specs.declared.name.Operand.{Operand}
use Rattle.eco_meaning.specs.declared.name.Operand.TheVariants.{Zero, One, Named}
use Rattle.eco_meaning.specs.Gates.{apply}
use Rattle.eco_meaning.specs.Names.{is_target_text, target_number}

-- a gate: its kind, the net that it drives, and what its inputs read, in order
pub record NamedGate : Type 0 where
  pub kind : Kind
  pub out : List ℕ
  pub terms : List Operand

-- a netlist: its module's name, its ports in the order of the header, those of them that are inputs and those
-- that are outputs, its other nets, and its gates
pub record Circuit : Type 0 where
  pub title : List ℕ
  pub ports : List (List ℕ)
  pub inputs : List (List ℕ)
  pub outputs : List (List ℕ)
  pub wires : List (List ℕ)
  pub gates : List NamedGate

-- the names of all nets, in the order of their numbers
abbrev pub names : Circuit → List (List ℕ)
names n = n.ports ++ n.wires

-- a bit for each name
abbrev pub Values : Type 0
Values = List ℕ → Bool

-- the bit that a gate's input reads
abbrev pub value_of : Values → Operand → Bool
value_of v Zero = false
value_of v One = true
value_of v (Named name) = v name

-- each gate's output has the value of its kind at its inputs
abbrev pub IsConsistent : Circuit → Values → Type 0
IsConsistent n v = (g : NamedGate) → Contains n.gates g → v g.out ≡ apply g.kind (map (value_of v) g.terms)

-- two maps give equal bits to each of the names
abbrev pub AgreeOn : List (List ℕ) → Values → Values → Type 0
AgreeOn list v u = (name : List ℕ) → Contains list name → v name ≡ u name

-- the gate reads the net of this name
abbrev pub Reads : NamedGate → List ℕ → Type 0
Reads g name = Contains g.terms (Named name)

-- some gate drives the net of this name
abbrev pub IsDriven : Circuit → List ℕ → Type 0
IsDriven n name = (g : NamedGate) × Contains n.gates g × (g.out ≡ name)

-- each member of the list, and the first of all given apart, is followed by the next one
abbrev pub IsChain : {X : Type 0} → (X → X → Type 0) → X → List X → Type 0
IsChain Follows x [] = Unit {0}
IsChain Follows x (y ∷ ys) = Follows x y × IsChain Follows y ys

-- the last of a list, which is the given one where there is no other
abbrev pub last_of : {X : Type 0} → X → List X → X
last_of x [] = x
last_of x (y ∷ ys) = last_of y ys

-- a circle: each member is followed by the next one, and the last by the first; there is at least one
abbrev pub IsCircle : {X : Type 0} → (X → X → Type 0) → List X → Type 0
IsCircle Follows [] = ⊥
IsCircle Follows (x ∷ xs) = IsChain Follows x xs × Follows (last_of x xs) x

-- the second gate reads the output of the first
abbrev pub IsReadBy : NamedGate → NamedGate → Type 0
IsReadBy g h = Reads h g.out

-- gates that read each other's outputs in a circle
pub record IsLoop (n : Circuit) (loop : List NamedGate) : Type 0 where
  pub members : All (Contains n.gates) loop
  pub circle : IsCircle IsReadBy loop

-- there is no loop
abbrev pub IsLoopFree : Circuit → Type 0
IsLoopFree n = (loop : List NamedGate) → IsLoop n loop → ⊥

-- the fan-out of a net: itself, and the output of each gate that reads a net of it
pub data Fan (n : Circuit) (source : List ℕ) : List ℕ → Type 0 where
  itself : Fan n source source
  next : (g : NamedGate) → Contains n.gates g → (name : List ℕ) → Reads g name → Fan n source name → Fan n source g.out

-- an input or a gate's output
abbrev pub IsSignal : Circuit → List ℕ → Type 0
IsSignal n name = Contains n.inputs name ⊎ IsDriven n name

-- a target: a net that nothing drives and that is no input
pub record IsTarget (n : Circuit) (name : List ℕ) : Type 0 where
  pub net : Contains (names n) name
  pub free : IsSignal n name → ⊥

-- these are the targets, in the order of the numbers in their names
pub record AreTargets (n : Circuit) (targets : List (List ℕ)) : Type 0 where
  pub named : All (λ target. IsTrue (is_target_text target)) targets
  pub ordered : IsStrictlyIncreasing (map target_number targets)
  pub sound : All (IsTarget n) targets
  pub complete : (name : List ℕ) → IsTarget n name → Contains targets name
