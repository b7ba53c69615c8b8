-- Nodes that are exclusive disjunctions of two edges.
use Rattle.std.specs.Prelude.{◌≡◌, ℕ, true, List, Some}
use Rattle.eco_aig.specs.declared.edge.Edge.{Edge}
use Rattle.eco_aig.specs.declared.node.Node.{Node}
use Rattle.eco_aig.specs.Edges.{complement}
use Rattle.eco_aig.specs.Graph.{pair_at}

-- the node is made of two edges as `Aig::xor` makes it: it is the conjunction of the complements of two and-nodes, one of both
-- edges, the other of their complements
pub record IsExclusive (nodes : List Node) (node : ℕ) (first second : Edge) : Type 0 where
  pub both : Edge
  pub neither : Edge
  pub operands : pair_at nodes node ≡ Some (both, neither)
  pub not_both : both.complemented ≡ true
  pub not_neither : neither.complemented ≡ true
  pub of_both : pair_at nodes both.node ≡ Some (first, second)
  pub of_neither : pair_at nodes neither.node ≡ Some (complement first, complement second)
