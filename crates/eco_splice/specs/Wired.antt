-- The edges of a graph that have a wire in a patch: those to the and-nodes that are marked, and complements that they read.
use Rattle.std.specs.Prelude.{ℕ, Bool, false, not, ◌&&◌, ◌==◌, List, [], ◌∷◌, ◌++◌, filter, length, slice_index_or}
use Rattle.std.specs.List.{list_any, flat_map, range_with_len}
use Rattle.std.specs.Option.{is_some}
use Rattle.eco_aig.specs.declared.edge.Edge.{Edge}
use Rattle.eco_aig.specs.declared.node.Node.{Node}
use Rattle.eco_aig.specs.Edges.{plain}
use Rattle.eco_aig.specs.Graph.{pair_at}
use Rattle.eco_aig.specs.Reached.{operands_at}

-- whether this is an and-node with a mark
abbrev pub is_gate : List Node → List Bool → ℕ → Bool
is_gate nodes marks k = slice_index_or marks k false && is_some (pair_at nodes k)

-- the marked and-nodes among so many first nodes, rising
abbrev pub gates_below : List Node → List Bool → ℕ → List ℕ
gates_below nodes marks below = filter (is_gate nodes marks) (range_with_len 0 below)

-- whether the edge is the complement of the node
abbrev pub is_complement_of : ℕ → Edge → Bool
is_complement_of node e = e.complemented && (e.node == node)

-- whether the complement of the node is an operand of one of these and-nodes
abbrev pub is_inverted : List Node → List ℕ → ℕ → Bool
is_inverted nodes gates node = list_any (λ k. list_any (is_complement_of node) (operands_at nodes k)) gates

-- the complements that come with an and-node: those of its operands that are complements and are operands of no marked
-- and-node before it
abbrev pub new_complements : List Node → List Bool → ℕ → List Edge
new_complements nodes marks k =
    filter (λ e. e.complemented && not (is_inverted nodes (gates_below nodes marks k) e.node)) (operands_at nodes k)

-- the edges that have a wire, in the order of the wires: for each marked and-node, rising, the complements that come
-- with it, and then the node
abbrev pub wired_below : List Node → List Bool → ℕ → List Edge
wired_below nodes marks below =
    flat_map (λ k. new_complements nodes marks k ++ plain k ∷ []) (gates_below nodes marks below)

abbrev pub wired : List Node → List Bool → List Edge
wired nodes marks = wired_below nodes marks (length nodes)
