-- Bits of edges, and what literals and variables are read as.
use Rattle.std.specs.Prelude.{◌≡◌, ℕ, Bool, true, List, map, All}
use Rattle.eco_aig.specs.declared.edge.Edge.{Edge}
use Rattle.eco_aig.specs.declared.node.Node.{Node}
use Rattle.eco_aig.specs.Edges.{value_of}
use Rattle.eco_aig.specs.Graph.{IsValuation}
use Rattle.eco_trace.specs.declared.clause.Var.{Var}
use Rattle.eco_trace.specs.Clauses.{Valuation}

-- the variables' bits
abbrev pub read_vars : Valuation → List Var → List Bool
read_vars v vars = map (λ x. v x.0) vars

-- a valuation of the graph at which the asserted edges are 1
pub record Makes (graph : List Node) (asserted : List Edge) (w : ℕ → Bool) : Type 0 where
  pub valuation : IsValuation graph w
  pub held : All (λ e. value_of w e ≡ true) asserted
