-- What stands between two parts of clauses.
use Rattle.std.specs.Prelude.{◌≡◌, ℕ, Bool, true, false, List, Contains}
use Rattle.eco_trace.specs.declared.clause.Var.{Var}
use Rattle.eco_trace.specs.Clauses.{Valuation}
use Rattle.eco_trace.specs.Split.{Split, IsShared, IsModelOf}
use Rattle.eco_aig.specs.declared.edge.Edge.{Edge}
use Rattle.eco_aig.specs.declared.node.Node.{Node}
use Rattle.eco_aig.specs.Edges.{value_of}
use Rattle.eco_aig.specs.Graph.{IsValuation, IsEdge}

-- variables with their edges: each variable that occurs in both parts has one
abbrev pub IsCovered : Split → List (Var × Edge) → Type 0
IsCovered s shared = (x : Var) → IsShared s x → (e : Edge) × Contains shared (x, e)

-- each variable that occurs in both parts has the value of its edge, where the nodes have these bits
abbrev pub Follows : Split → List (Var × Edge) → (ℕ → Bool) → Valuation → Type 0
Follows s shared w v = (x : Var) (e : Edge) → IsShared s x → Contains shared (x, e) → v x.0 ≡ value_of w e

-- the edges of the variables that occur in both parts have equal values
abbrev pub AgreeOnShared : Split → List (Var × Edge) → (ℕ → Bool) → (ℕ → Bool) → Type 0
AgreeOnShared s shared w u = (x : Var) (e : Edge) → IsShared s x → Contains shared (x, e) → value_of w e ≡ value_of u e

-- the edge stands between A and B: where a model of A gives each variable that occurs in both parts the value of its
-- edge, it is 1; where a model of B does, it is 0; and it depends on the edges of these variables alone
pub record IsBetween (s : Split) (shared : List (Var × Edge)) (nodes : List Node) (e : Edge) : Type 0 where
  pub within : IsEdge nodes e
  pub above : (w : ℕ → Bool) (v : Valuation) → IsValuation nodes w → Follows s shared w v → IsModelOf s true v → value_of w e ≡ true
  pub below : (w : ℕ → Bool) (v : Valuation) → IsValuation nodes w → Follows s shared w v → IsModelOf s false v → value_of w e ≡ false
  pub alone : (w u : ℕ → Bool) → IsValuation nodes w → IsValuation nodes u → AgreeOnShared s shared w u → value_of w e ≡ value_of u e
