-- Which signals are steady over a tuple, by their edges in copies over one graph of the targets.
use Rattle.std.specs.Prelude.{◌≡◌, ℕ, Bool, false, List, Some, slice_get, Contains}
use Rattle.eco_meaning.specs.Circuit.{Circuit, Values, AreTargets}
use Rattle.eco_aig.specs.declared.edge.Edge.{Edge}
use Rattle.eco_aig.specs.Edges.{value_of, bits_of}
use Rattle.eco_aig.specs.Graph.{IsValuation}
use Rattle.eco_clash.specs.Clashes.{IsAt, IsSteady}
use Rattle.eco_tuples.specs.declared.target_graph.TargetGraph.{TargetGraph}

-- the signals whose places the row doesn't have are steady over the tuple
abbrev pub IsSteadyBeside : Circuit → List (List ℕ) → List (List Bool) → List ℕ → Type 0
IsSteadyBeside f signals tuple row =
    (targets : List (List ℕ)) → AreTargets f targets → (k : ℕ) (name : List ℕ) → slice_get signals k ≡ Some name →
    (Contains row k → ⊥) → IsSteady f targets tuple name

-- those without a mark are
abbrev pub AreSteadyUnless : Circuit → List (List ℕ) → List (List Bool) → List Bool → Type 0
AreSteadyUnless f signals tuple marks =
    (targets : List (List ℕ)) → AreTargets f targets → (k : ℕ) (name : List ℕ) → slice_get signals k ≡ Some name →
    slice_get marks k ≡ Some false → IsSteady f targets tuple name

-- at the input the net has the bit of the edge, whatever map with the bits of the graph at the targets gives it
abbrev pub HasEdgeAt : Circuit → TargetGraph → List Bool → List ℕ → Edge → Type 0
HasEdgeAt f graph x name e =
    (targets : List (List ℕ)) → AreTargets f targets → (w : ℕ → Bool) → IsValuation graph.graph w →
    (v : Values) → IsAt f targets x (bits_of w graph.opens.items) v → v name ≡ value_of w e

-- those without a mark have their edges at all of these inputs
abbrev pub AreSharedUnless : Circuit → List (List ℕ) → TargetGraph → List (List Bool) → List Edge → List Bool → Type 0
AreSharedUnless f signals graph tuple edges marks =
    (k : ℕ) (name : List ℕ) (e : Edge) → slice_get signals k ≡ Some name → slice_get edges k ≡ Some e → slice_get marks k ≡ Some false →
    (x : List Bool) → Contains tuple x → HasEdgeAt f graph x name e
