-- Patches: netlists that drive the targets of an implementation, or the first of them.
use Rattle.std.specs.Prelude.{◌≡◌, ℕ, List, ◌∷◌, ◌++◌, All, Contains, length}
use Rattle.eco_meaning.specs.Circuit.{Circuit, NamedGate, names, Fan, IsLoopFree, IsSignal, IsTarget, AreTargets, Reads}

-- the name lies in the fan-out of none of f's targets but these
abbrev pub IsBehindOnly : Circuit → List (List ℕ) → List ℕ → Type 0
IsBehindOnly f targets name = (target : List ℕ) → IsTarget f target → Fan f target name → Contains targets target

-- this holds of the target of the number i, counted from 0, and of the targets that come before it
abbrev pub OfTarget : Circuit → ℕ → (List (List ℕ) → List ℕ → Type 0) → Type 0
OfTarget f i P =
    (before : List (List ℕ)) (target : List ℕ) (behind : List (List ℕ)) →
    AreTargets f (before ++ target ∷ behind) → length before ≡ i → P before target

-- what the function of a target reads lies behind no target but those that come before it
abbrev pub ReadsBehindEarlier : Circuit → Circuit → Type 0
ReadsBehindEarlier f p =
    (before : List (List ℕ)) (target : List ℕ) (behind : List (List ℕ)) → p.outputs ≡ before ++ target ∷ behind →
    (signal : List ℕ) → Contains p.inputs signal → Fan p signal target → IsBehindOnly f before signal

-- the patch p may stand in f; it drives the first targets, and `later` are those that are left
pub record Fits (f p : Circuit) (later : List (List ℕ)) : Type 0 where
  pub loop_free : IsLoopFree p
  pub closed : (name : List ℕ) → IsTarget p name → ⊥
  pub drives : AreTargets f (p.outputs ++ later)
  pub reads : All (IsSignal f) p.inputs
  pub apart : ReadsBehindEarlier f p
  pub fresh : (wire : List ℕ) → Contains p.wires wire → Contains (names f) wire → ⊥

-- f and the patch in one netlist, with f's module name, ports, inputs and outputs; nothing is renamed
abbrev pub splice_of : Circuit → Circuit → Circuit
splice_of f p = record {
  title = f.title;
  ports = f.ports;
  inputs = f.inputs;
  outputs = f.outputs;
  wires = f.wires ++ p.wires;
  gates = f.gates ++ p.gates;
}

-- each input of the patch is read by some gate
abbrev pub ReadsAllInputs : Circuit → Type 0
ReadsAllInputs p = All (λ name. (gate : NamedGate) × Contains p.gates gate × Reads gate name) p.inputs
