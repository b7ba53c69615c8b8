-- Edges for the nets of a netlist.
use Rattle.std.specs.Prelude.{◌≡◌, ℕ, Bool, List, ◌++◌, length, slice_get, Some, All}
use Rattle.std.specs.List.{sum_by}
use Rattle.eco_meaning.specs.Circuit.{Circuit, Values, names, AreTargets}
use Rattle.eco_netlist.specs.Netlists.{bit_of}
use Rattle.eco_aig.specs.declared.edge.Edge.{Edge}
use Rattle.eco_aig.specs.declared.node.Node.{Node}
use Rattle.eco_aig.specs.Edges.{bits_of}
use Rattle.eco_aig.specs.Graph.{IsEdge}
use Rattle.eco_compile.specs.Joins.{gate_nodes}

-- the bits of edges, one for each net, as a map from the nets' names
abbrev pub values_of : Circuit → (ℕ → Bool) → List Edge → Values
values_of n w edges = bit_of (names n) (bits_of w edges)

-- all these are edges of the graph
abbrev pub AreEdges : List Node → List Edge → Type 0
AreEdges nodes edges = All (IsEdge nodes) edges

-- the netlist has this number of inputs and targets together
abbrev pub HasOpenNets : Circuit → ℕ → Type 0
HasOpenNets n count = (targets : List (List ℕ)) × AreTargets n targets × (length (n.inputs ++ targets) ≡ count)

-- the nets of the inputs, then those of the targets, have the given edges
pub record IsBound (n : Circuit) (bind edges : List Edge) : Type 0 where
  pub bound : (targets : List (List ℕ)) → AreTargets n targets → (k net : ℕ) (name : List ℕ) → slice_get (n.inputs ++ targets) k ≡ Some name → slice_get (names n) net ≡ Some name → slice_get edges net ≡ slice_get bind k

-- how many nodes the gates may take together
abbrev pub needed_nodes : Circuit → ℕ
needed_nodes n = sum_by (λ g. gate_nodes g.kind (length g.terms)) n.gates
