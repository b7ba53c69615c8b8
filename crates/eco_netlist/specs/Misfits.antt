-- Why a netlist is no patch of another one: the first reason, with the smallest name that gives it.
use Rattle.std.specs.Prelude.{◌≡◌, ◌⊎◌, ℕ, List, ◌∷◌, ◌++◌, Option, Some, None, Contains}
use Rattle.eco_meaning.specs.Circuit.{Circuit, names, Fan, IsSignal, IsTarget, AreTargets}
use Rattle.eco_netlist.specs.declared.reasons.Misfit.{Misfit}
use Rattle.eco_netlist.specs.declared.reasons.Misfit.TheVariants.{Outputs, Input, Inner}
use Rattle.eco_netlist.specs.Refusals.{IsNoLater}

-- p has no target of its own, and its outputs are the targets of f in order
pub record DrivesTargets (f p : Circuit) : Type 0 where
  pub closed : (name : List ℕ) → IsTarget p name → ⊥
  pub drives : AreTargets f p.outputs

-- what p makes for one of its outputs reads the name, which lies in f behind that output or a later one
pub record IsReadTooEarly (f p : Circuit) (name : List ℕ) : Type 0 where
  pub before : List (List ℕ)
  pub output : List ℕ
  pub behind : List (List ℕ)
  pub split : p.outputs ≡ before ++ output ∷ behind
  pub reads : Fan p name output
  pub target : List ℕ
  pub late : Contains (output ∷ behind) target
  pub reached : Fan f target name

-- no signal of f, or read too early: a patch may not read it
abbrev pub IsUnfit : Circuit → Circuit → List ℕ → Type 0
IsUnfit f p name = (IsSignal f name → ⊥) ⊎ IsReadTooEarly f p name

-- an input of p that it may not read
pub record IsUnfitInput (f p : Circuit) (name : List ℕ) : Type 0 where
  pub input : Contains p.inputs name
  pub unfit : IsUnfit f p name

-- a wire of p whose name f has too
pub record IsTakenWire (f p : Circuit) (name : List ℕ) : Type 0 where
  pub wire : Contains p.wires name
  pub taken : Contains (names f) name

-- the smallest name with the property
pub record IsSmallest (Has : List ℕ → Type 0) (name : List ℕ) : Type 0 where
  pub holds : Has name
  pub smallest : (other : List ℕ) → Has other → IsNoLater name other

-- this is the first reason
abbrev pub Misfits : Circuit → Circuit → Misfit → Type 0
Misfits f p Outputs = DrivesTargets f p → ⊥
Misfits f p (Input name) = DrivesTargets f p × IsSmallest (IsUnfitInput f p) name
Misfits f p (Inner name) =
    DrivesTargets f p × ((input : List ℕ) → IsUnfitInput f p input → ⊥) × IsSmallest (IsTakenWire f p) name

-- the smallest name of the list that has the property, or none where no name has it
abbrev pub IsLeastIn : (List ℕ → Type 0) → List (List ℕ) → Option (List ℕ) → Type 0
IsLeastIn Has list None = (name : List ℕ) → Contains list name → Has name → ⊥
IsLeastIn Has list (Some least) =
    Contains list least × Has least × ((other : List ℕ) → Contains list other → Has other → IsNoLater least other)
