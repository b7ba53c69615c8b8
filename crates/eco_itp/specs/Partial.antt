-- Partial interpolants: what the edge of a clause of the proof says.
use Rattle.std.specs.Prelude.{◌≡◌, ℕ, Bool, not, List, Some, slice_get, Any}
use Rattle.eco_trace.specs.declared.clause.Lit.{Lit}
use Rattle.eco_trace.specs.Clauses.{Valuation, IsTrueIn, IsClause}
use Rattle.eco_aig.specs.declared.edge.Edge.{Edge}
use Rattle.eco_aig.specs.declared.node.Node.{Node}
use Rattle.eco_aig.specs.Edges.{value_of}
use Rattle.eco_aig.specs.Graph.{IsValuation, IsEdge}
use Rattle.eco_itp.specs.declared.parts.Parts.{Parts}
use Rattle.eco_trace.specs.Split.{IsModelOf}
use Rattle.eco_itp.specs.Between.{Follows, AgreeOnShared}
use Rattle.eco_itp.specs.Parts.{split_of, occurs}

-- the edge is a partial interpolant of the clause: where a model of a part gives each variable that occurs in both
-- parts the value of its edge, and the edge hasn't the part's mark as its bit, the model makes a literal true: of A
-- one whose variable doesn't occur in B, of B one whose variable does. It depends on the shared edges alone
pub record IsPartial (p : Parts) (nodes : List Node) (clause : List Lit) (e : Edge) : Type 0 where
  pub formed : IsClause clause
  pub within : IsEdge nodes e
  pub says : (w : ℕ → Bool) (v : Valuation) (bit : Bool) → IsValuation nodes w → Follows (split_of p) p.shared.now w v → IsModelOf (split_of p) (not bit) v → value_of w e ≡ bit → Any (λ l. (occurs p l.var ≡ bit) × IsTrueIn v l) clause
  pub alone : (w u : ℕ → Bool) → IsValuation nodes w → IsValuation nodes u → AgreeOnShared (split_of p) p.shared.now w u → value_of w e ≡ value_of u e

-- each of these edges is a partial interpolant of the clause at its place
abbrev pub ArePartial : Parts → List Node → List (List Lit) → List Edge → Type 0
ArePartial p nodes clauses edges = (k : ℕ) (clause : List Lit) (e : Edge) → slice_get clauses k ≡ Some clause → slice_get edges k ≡ Some e → IsPartial p nodes clause e
