-- The functions of an implementation's first targets, as edges of a graph.
use Rattle.std.specs.Prelude.{◌≡◌, ◌<◌, ◌≤◌, ◌+◌, ◌++◌, ◌∷◌, [], ℕ, Bool, List, Some, All, AllPairs, length, map, slice_get, take}
use Rattle.eco_meaning.specs.Circuit.{Circuit, AreTargets, names}
use Rattle.eco_meaning.specs.Patch.{IsBehindOnly}
use Rattle.eco_gates.specs.declared.gate.NetId.{NetId}
use Rattle.eco_netlist.specs.Netlists.{names_at}
use Rattle.eco_trace.specs.declared.clause.Var.{Var}
use Rattle.eco_trace.specs.Clauses.{Valuation}
use Rattle.eco_trace.specs.Split.{Split, IsModelOf}
use Rattle.eco_tseitin.specs.Reading.{read_vars}
use Rattle.eco_aig.specs.declared.edge.Edge.{Edge}
use Rattle.eco_aig.specs.declared.node.Node.{Node}
use Rattle.eco_aig.specs.Edges.{value_of}
use Rattle.eco_aig.specs.Graph.{IsGraph, IsEdge, IsValuation, inputs_of}
use Rattle.eco_aig.specs.Reached.{Reaches}

-- A graph whose inputs stand for signals of the implementation, in order; the root of each target's function; and how many of
-- the first signals each target may read.
pub record FunctionsValue : Type 0 where
  pub nodes : List Node
  pub base : List NetId
  pub roots : List Edge
  pub counts : List ℕ

-- each root reaches only inputs that its target may read
abbrev pub ReachCounted : FunctionsValue → Type 0
ReachCounted functions =
    (k count : ℕ) (root : Edge) (place node : ℕ) →
    slice_get functions.roots k ≡ Some root → slice_get functions.counts k ≡ Some count →
    slice_get (inputs_of functions.nodes) place ≡ Some node → Reaches functions.nodes root.node node → place < count

-- there is an input for each signal, and a count for each root; later counts are no smaller, and none exceeds the signals
pub record AreFunctions (functions : FunctionsValue) : Type 0 where
  pub graph : IsGraph functions.nodes
  pub inputs : length (inputs_of functions.nodes) ≡ length functions.base
  pub edges : All (IsEdge functions.nodes) functions.roots
  pub count : length functions.counts ≡ length functions.roots
  pub rising : AllPairs (λ earlier later. earlier ≤ later) functions.counts
  pub within : All (λ count. count ≤ length functions.base) functions.counts
  pub reach : ReachCounted functions

-- where the signals that both have have the same bits, each older root has the bit that it had
abbrev pub KeepsValues : FunctionsValue → FunctionsValue → Type 0
KeepsValues old new =
    (w u : ℕ → Bool) → IsValuation old.nodes w → IsValuation new.nodes u →
    map w (inputs_of old.nodes) ≡ take (length old.base) (map u (inputs_of new.nodes)) →
    (k : ℕ) (root now : Edge) → slice_get old.roots k ≡ Some root → slice_get new.roots k ≡ Some now →
    value_of w root ≡ value_of u now

-- one more target has a function, which may read these signals too
pub record HasOneMore (old : FunctionsValue) (more : List NetId) (new : FunctionsValue) : Type 0 where
  pub base : new.base ≡ old.base ++ more
  pub roots : length new.roots ≡ length old.roots + 1
  pub counts : new.counts ≡ old.counts ++ length new.base ∷ []
  pub values : KeepsValues old new

-- the root stands between the two parts of the clauses: where the shared variables have the bits of the inputs in a model of
-- a part, it has the mark of the part
abbrev pub IsInterpolant : Split → List Var → List Node → Edge → Type 0
IsInterpolant split shared nodes root =
    (part : Bool) (u : ℕ → Bool) (v : Valuation) → IsValuation nodes u → IsModelOf split part v →
    read_vars v shared ≡ map u (inputs_of nodes) → value_of u root ≡ part

-- the last root does
abbrev pub LastIsInterpolant : Split → List Var → FunctionsValue → Type 0
LastIsInterpolant split shared functions =
    (k : ℕ) (root : Edge) → k + 1 ≡ length functions.roots → slice_get functions.roots k ≡ Some root →
    IsInterpolant split shared functions.nodes root

-- what a target may read lies behind no target but those before it
abbrev pub ReadEarlier : Circuit → FunctionsValue → Type 0
ReadEarlier f functions =
    (targets : List (List ℕ)) → AreTargets f targets →
    (k count place : ℕ) (name : List ℕ) → slice_get functions.counts k ≡ Some count → place < count →
    slice_get (names_at (names f) functions.base) place ≡ Some name → IsBehindOnly f (take k targets) name
