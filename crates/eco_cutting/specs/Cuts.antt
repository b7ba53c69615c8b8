-- Netlists with nets cut: what reads a cut net reads a new target in its place, and its gate drives a net that nothing reads.
use Rattle.std.specs.Prelude.{◌≡◌, ◌≢◌, ◌↔◌, ℕ, Bool, List, [], ◌∷◌, ◌++◌, IsTrue, map, filter, All, AllPairs, Contains, if◌then◌else◌}
use Rattle.std.specs.List.Sorted.{IsStrictlyIncreasing}
use Rattle.std.specs.Str.{bytes_eq}
use Rattle.eco_meaning.specs.declared.kind.Kind.TheVariants.{Buf}
use Rattle.eco_meaning.specs.declared.name.Operand.{Operand}
use Rattle.eco_meaning.specs.declared.name.Operand.TheVariants.{Zero, One, Named}
use Rattle.eco_meaning.specs.Names.{has, is_target_text, target_number}
use Rattle.eco_meaning.specs.Circuit.{Circuit, NamedGate, names, IsDriven, IsTarget, AreTargets}
use Rattle.eco_meaning.specs.Meaning.{Goal, IsWrong, IsRectifiable}
use Rattle.eco_laws.specs.Sound.{IsSound}
use Rattle.eco_laws.specs.Kept.{CaresForInputs}
use Rattle.eco_choices.specs.Choices.{IsWrongBut, IsChoice}
use Rattle.eco_netlist.specs.Netlists.{IsChecked}

-- a net that is cut, the target that is read in its place, and the net that its gate drives from now on
pub record Cut : Type 0 where
  pub net : List ℕ
  pub target : List ℕ
  pub old : List ℕ

-- what is picked of the first item that has this name as its key, and the default if none has
unfoldable pub chosen_by : {X Y : Type 0} → (X → List ℕ) → (X → Y) → List X → List ℕ → Y → Y
chosen_by key pick [] name default = default
chosen_by key pick (x ∷ xs) name default = if bytes_eq name (key x) then pick x else chosen_by key pick xs name default

-- the name that is read in place of a name, and the one that is driven in its place
abbrev pub read_for : List Cut → List ℕ → List ℕ
read_for cuts name = chosen_by (λ c. c.net) (λ c. c.target) cuts name name

abbrev pub driven_for : List Cut → List ℕ → List ℕ
driven_for cuts name = chosen_by (λ c. c.net) (λ c. c.old) cuts name name

abbrev pub read_operand : List Cut → Operand → Operand
read_operand cuts Zero = Zero
read_operand cuts One = One
read_operand cuts (Named name) = Named (read_for cuts name)

-- a gate with the cuts, and the gate that drives an output port whose net is cut
abbrev pub cut_gate : List Cut → NamedGate → NamedGate
cut_gate cuts g = record { kind = g.kind; out = driven_for cuts g.out; terms = map (read_operand cuts) g.terms }

abbrev pub port_gate : Cut → NamedGate
port_gate c = record { kind = Buf; out = c.net; terms = Named c.target ∷ [] }

abbrev pub cut_gates : Circuit → List Cut → List NamedGate
cut_gates f cuts = map (cut_gate cuts) f.gates ++ map port_gate (filter (λ c. has f.outputs c.net) cuts)

-- an output port's gate drives a new net, and another net's gate drives the net itself
pub record IsOldName (f : Circuit) (c : Cut) : Type 0 where
  pub port : Contains f.outputs c.net → Contains (names f) c.old → ⊥
  pub wire : (Contains f.outputs c.net → ⊥) → c.old ≡ c.net

-- the new names of cuts: no target is a name of f, and all targets and old names differ
pub record HasNewNames (f : Circuit) (cuts : List Cut) : Type 0 where
  pub fresh : All (λ c. Contains (names f) c.target → ⊥) cuts
  pub olds : All (IsOldName f) cuts
  pub apart : AllPairs (λ a b. a ≢ b) (map (λ c. c.target) cuts ++ map (λ c. c.old) cuts)

-- m is f with these nets cut, in their order: the targets of the cuts are m's targets, and all new names differ
pub record IsCut (f : Circuit) (nets : List (List ℕ)) (m : Circuit) : Type 0 where
  pub cuts : List Cut
  pub named : map (λ c. c.net) cuts ≡ nets
  pub title : m.title ≡ f.title
  pub ports : m.ports ≡ f.ports
  pub inputs : m.inputs ≡ f.inputs
  pub outputs : m.outputs ≡ f.outputs
  pub gates : m.gates ≡ cut_gates f cuts
  pub targets : AreTargets m (map (λ c. c.target) cuts)
  pub new : HasNewNames f cuts

-- with different driven nets cut, a netlist is wrong exactly at the inputs at which it was wrong but for these nets
abbrev pub CutIsWrongBut : Type 0
CutIsWrongBut =
    (f : Circuit) (goal : Goal) (nets : List (List ℕ)) (m : Circuit) → IsSound f → CaresForInputs f goal →
    AllPairs (λ a b. a ≢ b) nets → All (IsDriven f) nets → IsCut f nets m →
    (x : List Bool) → IsWrong m goal x ↔ IsWrongBut f goal nets x

-- so it can be rectified exactly if the nets are a choice
abbrev pub CutIsRectifiable : Type 0
CutIsRectifiable =
    (f : Circuit) (goal : Goal) (nets : List (List ℕ)) (m : Circuit) → IsSound f → CaresForInputs f goal →
    AllPairs (λ a b. a ≢ b) nets → All (IsDriven f) nets → IsCut f nets m → IsRectifiable m goal ↔ IsChoice f goal nets

-- cuts that can be made in f: different driven nets, targets with rising numbers, and new names
pub record AreCuts (f : Circuit) (cuts : List Cut) : Type 0 where
  pub once : AllPairs (λ a b. a ≢ b) (map (λ c. c.net) cuts)
  pub driven : All (λ c. IsDriven f c.net) cuts
  pub named : All (λ target. IsTrue (is_target_text target)) (map (λ c. c.target) cuts)
  pub ordered : IsStrictlyIncreasing (map target_number (map (λ c. c.target) cuts))
  pub new : HasNewNames f cuts

-- f with the cuts: the targets and the new nets of ports are wires behind those of f
abbrev pub cut_of : Circuit → List Cut → Circuit
cut_of f cuts = record f {
  wires = f.wires ++ (map (λ c. c.target) cuts ++ map (λ c. c.old) (filter (λ c. has f.outputs c.net) cuts));
  gates = cut_gates f cuts;
}

-- cuts of a checked netlist make a checked netlist
abbrev pub CutIsChecked : Type 0
CutIsChecked = (f : Circuit) (cuts : List Cut) → IsChecked f → AreCuts f cuts → IsChecked (cut_of f cuts)

-- and if the netlist has no targets, it is the netlist with these nets cut
abbrev pub CutIsMade : Type 0
CutIsMade =
    (f : Circuit) (cuts : List Cut) → IsSound f → ((name : List ℕ) → IsTarget f name → ⊥) → AreCuts f cuts →
    IsCut f (map (λ c. c.net) cuts) (cut_of f cuts)
