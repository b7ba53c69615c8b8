-- What comes of the merging of all roots.
use Rattle.std.specs.Prelude.{◌≤◌, ◌+◌, ◌++◌, ◌∷◌, [], ℕ, List, All, length}
use Rattle.eco_gates.specs.declared.gate.NetId.{NetId}
use Rattle.eco_trace.specs.declared.clause.Var.{Var}
use Rattle.eco_trace.specs.Split.{Split}
use Rattle.eco_aig.specs.declared.edge.Edge.{Edge}
use Rattle.eco_aig.specs.declared.node.Node.{Node}
use Rattle.eco_aig.specs.Graph.{IsEdge}
use Rattle.eco_merge.specs.declared.loose.Loose.{Loose}
use Rattle.eco_merge.specs.Counting.{AreNoMore, AreUnlike, IsGate, IsItem}
use Rattle.eco_merge.specs.Questions.{IsEntry}
use Rattle.eco_functions.specs.Functions.{FunctionsValue, IsInterpolant}
use Rattle.eco_functions.specs.Inputs.{HasMoreInputs}

-- no two and-nodes that the roots reach are equal or complementary under all valuations, and none is constant, but where an
-- entry says why this isn't known: its clauses ask it, and a search learnt as many clauses as the limit allows
pub record AreMerged (limit : ℕ) (functions : FunctionsValue) : Type 0 where
  pub apart : List Loose
  pub entries : All (IsEntry functions.nodes limit) apart
  pub unlike : AreUnlike functions.nodes functions.roots apart

-- before the merging: the older functions' graph with inputs for more signals and at most so many further nodes, and in it an
-- edge that stands between the two parts of the clauses
pub record IsUnmerged (old : FunctionsValue) (more : List NetId) (split : Split) (shared : List Var) (most : ℕ) (nodes : List Node) (root : Edge) : Type 0 where
  pub inputs : HasMoreInputs old.nodes (length more) nodes
  pub few : length nodes ≤ length old.nodes + length more + most
  pub edge : IsEdge nodes root
  pub between : IsInterpolant split shared nodes root

-- the roots reach no more and-nodes than the older roots and such an edge did before the merging, and with the complements of
-- operands no more either
pub record ReachNoMore (old : FunctionsValue) (more : List NetId) (split : Split) (shared : List Var) (most : ℕ) (new : FunctionsValue) : Type 0 where
  pub nodes : List Node
  pub root : Edge
  pub before : IsUnmerged old more split shared most nodes root
  pub gates : AreNoMore (IsGate new.nodes new.roots) (IsGate nodes (old.roots ++ root ∷ []))
  pub items : AreNoMore (IsItem new.nodes new.roots) (IsItem nodes (old.roots ++ root ∷ []))
