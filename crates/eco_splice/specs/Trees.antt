-- Trees between an edge of a graph and the operands of a gate.
use Rattle.std.specs.Prelude.{◌≡◌, ℕ, ◌≤◌, Bool, true, false, List, [], ◌∷◌, ◌++◌, Some, length, map}
use Rattle.eco_meaning.specs.declared.kind.Kind.{Kind}
use Rattle.eco_meaning.specs.declared.kind.Kind.TheVariants.{And, Nand, Or, Nor, Xor, Xnor, Buf, Not}
use Rattle.eco_aig.specs.declared.edge.Edge.{Edge}
use Rattle.eco_aig.specs.declared.node.Node.{Node}
use Rattle.eco_lists.specs.Bits.{exactly_one}
use Rattle.eco_aig.specs.Edges.{complement}
use Rattle.eco_aig.specs.Exclusive.{IsExclusive}
use Rattle.eco_aig.specs.Graph.{IsEdge, pair_at}
use Rattle.eco_splice.specs.declared.line.Line.{Line}
use Rattle.eco_splice.specs.declared.join.Join.{Join}
use Rattle.eco_splice.specs.declared.join.Join.TheVariants.{Conjunction, Parity}

-- the edge joins two others: as a plain edge to an and-node its operands, or as an edge to the node of an exclusive disjunction
-- the edges of that
abbrev pub Joins : List Node → Join → Edge → Edge → Edge → Type 0
Joins nodes Conjunction edge first second = (edge.complemented ≡ false) × (pair_at nodes edge.node ≡ Some (first, second))
Joins nodes Parity edge first second = IsExclusive nodes edge.node first second

-- the edge is met at this operand: it is the operand, or, in a parity, goes to the same node
abbrev pub Meets : Join → Edge → Edge → Type 0
Meets Conjunction edge operand = edge ≡ operand
Meets Parity edge operand = edge.node ≡ operand.node

-- the edge is the root of a tree whose leaves from left to right meet the operands, each inner edge joining the two below it. The
-- sign is 1 where, of the inner edges, the leaves and the operands, an odd number is complemented
pub data Spans (nodes : List Node) (join : Join) : Edge → List Edge → Bool → Type 0 where
  leaf : (edge operand : Edge) → Meets join edge operand → Spans nodes join edge (operand ∷ []) (exactly_one edge.complemented operand.complemented)
  inner : (edge first second : Edge) (operands more : List Edge) (sign other : Bool) → Joins nodes join edge first second
      → Spans nodes join first operands sign → Spans nodes join second more other
      → Spans nodes join edge (operands ++ more) (exactly_one edge.complemented (exactly_one sign other))

-- there are two operands or more, those of a tree below the edge whose signs cancel
pub record IsJoined (nodes : List Node) (join : Join) (edge : Edge) (operands : List Edge) : Type 0 where
  pub many : 2 ≤ length operands
  pub tree : Spans nodes join edge operands false

-- the edge has the structure of a gate of the kind over the operands; a disjunction is the complement of a conjunction of
-- complements
abbrev pub IsBuiltAs : List Node → Kind → Edge → List Edge → Type 0
IsBuiltAs nodes And edge operands = IsJoined nodes Conjunction edge operands
IsBuiltAs nodes Nand edge operands = IsJoined nodes Conjunction (complement edge) operands
IsBuiltAs nodes Or edge operands = IsJoined nodes Conjunction (complement edge) (map complement operands)
IsBuiltAs nodes Nor edge operands = IsJoined nodes Conjunction edge (map complement operands)
IsBuiltAs nodes Xor edge operands = IsJoined nodes Parity edge operands
IsBuiltAs nodes Xnor edge operands = IsJoined nodes Parity (complement edge) operands
IsBuiltAs nodes Buf edge operands = operands ≡ edge ∷ []
IsBuiltAs nodes Not edge operands = operands ≡ complement edge ∷ []

-- the line's edge is one of the graph, which has the structure of the line's gate
pub record IsBuilt (nodes : List Node) (line : Line) : Type 0 where
  pub within : IsEdge nodes line.edge
  pub structure : IsBuiltAs nodes line.kind line.edge line.operands.items
