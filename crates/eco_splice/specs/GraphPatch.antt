-- The patch whose first targets have the values of edges of a graph.
use Rattle.std.specs.Prelude.{◌≡◌, ℕ, ◌≤◌, Bool, not, ◌&&◌, ◌==◌, List, [], ◌∷◌, ◌++◌, Some, map, length, codes, Contains, slice_get, take, drop, if◌then◌else◌}
use Rattle.std.specs.List.{position_or_len, range_with_len, zip}
use Rattle.eco_meaning.specs.declared.kind.Kind.{Kind}
use Rattle.eco_meaning.specs.declared.kind.Kind.TheVariants as kind
use Rattle.eco_meaning.specs.declared.name.Operand.{Operand}
use Rattle.eco_meaning.specs.declared.name.Operand.TheVariants as operand
use Rattle.eco_meaning.specs.Circuit.{Circuit, NamedGate, Values, names, IsConsistent, AreTargets, Reads}
use Rattle.eco_meaning.specs.Patch.{Fits, IsBehindOnly}
use Rattle.eco_netlist.specs.Netlists.{name_at}
use Rattle.eco_text.specs.Prefix.{IsFreshPrefix, numbered}
use Rattle.eco_aig.specs.declared.edge.Edge.{Edge}
use Rattle.eco_aig.specs.declared.node.Node.{Node}
use Rattle.eco_aig.specs.Edges.{plain, value_of}
use Rattle.eco_aig.specs.Graph.{IsValuation, inputs_of}
use Rattle.eco_aig.specs.Reached.{operands_at, Reaches, IsReached, AreReached}
use Rattle.eco_splice.specs.Wired.{wired}

-- whether two edges go to one node and have one sign
abbrev pub same_edge : Edge → Edge → Bool
same_edge a b = (a.node == b.node) && (if a.complemented then b.complemented else not b.complemented)

-- the edges that have a net in the patch: those to the inputs, then those that have a wire
abbrev pub netted : List Node → List Edge → List Edge
netted nodes edges = map plain (inputs_of nodes) ++ edges

-- so many wires with the numbers from the first one on
abbrev pub wires_from : List ℕ → ℕ → ℕ → List (List ℕ)
wires_from prefix first count = map (numbered prefix) (range_with_len first count)

-- these nets: the base signals, then the wires
abbrev pub nets_of : List ℕ → List (List ℕ) → ℕ → List (List ℕ)
nets_of prefix base wires = base ++ wires_from prefix 1 wires

-- the net of an edge: it has the place among the nets that the edge has among the edges
abbrev pub net_of : List Edge → List (List ℕ) → Edge → List ℕ
net_of edges nets e = name_at nets (position_or_len (same_edge e) edges)

-- what the gate of an edge reads: that of a complement the node, that of an and-node its operands
abbrev pub sources : List Node → Edge → List Edge
sources nodes e = if e.complemented then plain e.node ∷ [] else operands_at nodes e.node

-- the gate of an edge that has a wire
abbrev pub edge_gate : List Node → List Edge → List (List ℕ) → Edge → NamedGate
edge_gate nodes edges nets e = record {
  kind = if e.complemented then kind.Not else kind.And;
  out = net_of edges nets e;
  terms = map (λ source. operand.Named (net_of edges nets source)) (sources nodes e);
}

-- what the gate of a target reads, where the root of the target is this edge
abbrev pub root_term : List Edge → List (List ℕ) → Edge → Operand
root_term edges nets e =
    if e.node == 0 then (if e.complemented then operand.One else operand.Zero)
    else operand.Named (net_of edges nets (plain e.node))

-- a `not` for a complement of an input or and-node, else a `buf`
abbrev pub root_kind : Edge → Kind
root_kind e = if e.complemented && not (e.node == 0) then kind.Not else kind.Buf

-- the gate of a target
abbrev pub root_gate : List Edge → List (List ℕ) → List ℕ → Edge → NamedGate
root_gate edges nets target e = record { kind = root_kind e; out = target; terms = root_term edges nets e ∷ [] }

-- the patch over these edges that have wires
abbrev pub graph_circuit : List ℕ → List Node → List Edge → List (List ℕ) → List (List ℕ) → List Edge → Circuit
graph_circuit prefix nodes edges targets base roots = record {
  title = codes "patch";
  ports = targets ++ base;
  inputs = base;
  outputs = targets;
  wires = wires_from prefix 1 (length edges);
  gates = map (edge_gate nodes (netted nodes edges) (nets_of prefix base (length edges))) edges
      ++ map (λ p. root_gate (netted nodes edges) (nets_of prefix base (length edges)) p.0 p.1) (zip targets roots);
}

-- the patch of f's first targets over these base signals
pub record IsGraphPatch (f : Circuit) (nodes : List Node) (roots : List Edge) (base : List (List ℕ)) (p : Circuit) : Type 0 where
  pub prefix : List ℕ
  pub targets : List (List ℕ)
  pub later : List (List ℕ)
  pub marks : List Bool
  pub fresh : IsFreshPrefix (codes "eco") (names f) prefix
  pub count : length targets ≡ length roots
  pub first : AreTargets f (targets ++ later)
  pub reached : AreReached nodes roots marks
  pub made : p ≡ graph_circuit prefix nodes (wired nodes marks) targets base roots

-- f has at least so many targets
abbrev pub HasTargets : Circuit → ℕ → Type 0
HasTargets f count = (targets : List (List ℕ)) × AreTargets f targets × (count ≤ length targets)

-- the base signal of each input that a root reaches lies behind no target but those before the root's own
abbrev pub AreRooted : Circuit → List Node → List Edge → List (List ℕ) → Type 0
AreRooted f nodes roots base =
    (targets : List (List ℕ)) → AreTargets f targets →
    (k : ℕ) (root : Edge) (place node : ℕ) (name : List ℕ) → slice_get roots k ≡ Some root →
    slice_get (inputs_of nodes) place ≡ Some node → slice_get base place ≡ Some name → Reaches nodes root.node node →
    IsBehindOnly f (take k targets) name

-- the patch fits f; the targets behind its own are left
abbrev pub FitsFirst : Circuit → ℕ → Circuit → Type 0
FitsFirst f count p =
    (targets : List (List ℕ)) → AreTargets f targets → (p.outputs ≡ take count targets) × Fits f p (drop count targets)

-- where the base signals have the bits of the graph's inputs, the outputs have those of the roots
abbrev pub HasRootValues : List Node → List Edge → Circuit → Type 0
HasRootValues nodes roots p =
    (u : ℕ → Bool) (w : Values) → IsValuation nodes u → IsConsistent p w → map w p.inputs ≡ map u (inputs_of nodes) →
    map w p.outputs ≡ map (value_of u) roots

-- some gate reads the base signal of each input that a root reaches
abbrev pub ReadsReached : List Node → List Edge → List (List ℕ) → Circuit → Type 0
ReadsReached nodes roots base p =
    (place node : ℕ) (name : List ℕ) → slice_get (inputs_of nodes) place ≡ Some node → slice_get base place ≡ Some name →
    IsReached nodes roots node → (gate : NamedGate) × Contains p.gates gate × Reads gate name
