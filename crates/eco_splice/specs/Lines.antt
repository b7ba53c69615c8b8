-- Gates over edges of a graph.
use Rattle.std.specs.Prelude.{◌≡◌, ℕ, Bool, List, All, length}
use Rattle.eco_meaning.specs.Gates.{apply, FitsKind}
use Rattle.eco_aig.specs.declared.node.Node.{Node}
use Rattle.eco_aig.specs.Edges.{bits_of, value_of}
use Rattle.eco_aig.specs.Graph.{IsValuation}
use Rattle.eco_aig.specs.Reached.{Reaches}
use Rattle.eco_splice.specs.declared.line.Line.{Line}

-- the gate has the value of its edge, under every valuation, and reads only edges to nodes that its own reaches; there are as
-- many as its kind may have
pub record IsLine (nodes : List Node) (line : Line) : Type 0 where
  pub fits : FitsKind line.kind (length line.operands.items)
  pub value : (u : ℕ → Bool) → IsValuation nodes u → apply line.kind (bits_of u line.operands.items) ≡ value_of u line.edge
  pub reach : All (λ e. Reaches nodes line.edge.node e.node) line.operands.items
