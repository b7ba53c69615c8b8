-- What the theorems on netlists take as given; each checked netlist has it.
use Rattle.std.specs.Prelude.{◌≢◌, ◌⊎◌, ℕ, List, map, AllPairs, Contains}
use Rattle.eco_meaning.specs.Circuit.{Circuit, NamedGate, names, Reads, IsDriven, IsLoopFree}

-- names are distinct, inputs and outputs are nets, each port is one of them, each net is driven by one gate at most and an
-- input by none, gates drive and read nets, and there is no loop
pub record IsSound (n : Circuit) : Type 0 where
  pub distinct : AllPairs (λ a b. a ≢ b) (names n)
  pub inputs : (name : List ℕ) → Contains n.inputs name → Contains (names n) name
  pub inputs_once : AllPairs (λ a b. a ≢ b) n.inputs
  pub outputs : (name : List ℕ) → Contains n.outputs name → Contains (names n) name
  pub ports : (name : List ℕ) → Contains n.ports name → Contains n.inputs name ⊎ Contains n.outputs name
  pub driven_nets : (g : NamedGate) → Contains n.gates g → Contains (names n) g.out
  pub read_nets : (g : NamedGate) → Contains n.gates g → (name : List ℕ) → Reads g name → Contains (names n) name
  pub driven_once : AllPairs (λ a b. a ≢ b) (map (λ g. g.out) n.gates)
  pub inputs_free : (name : List ℕ) → Contains n.inputs name → IsDriven n name → ⊥
  pub loop_free : IsLoopFree n
