-- A smaller function in place of the last one.
use Rattle.std.specs.Prelude.{◌≡◌, ◌⊎◌, ◌-◌, ◌≤◌, ◌++◌, ◌∷◌, [], ℕ, List, length, take}
use Rattle.eco_trace.specs.declared.clause.Var.{Var}
use Rattle.eco_trace.specs.Split.{Split}
use Rattle.eco_aig.specs.declared.edge.Edge.{Edge}
use Rattle.eco_aig.specs.declared.node.Node.{Node}
use Rattle.eco_aig.specs.Graph.{IsEdge, Grows, inputs_of}
use Rattle.eco_merge.specs.Counting.{AreNoMore, IsGate, IsItem}
use Rattle.eco_accept.specs.Judging.{HasMark}
use Rattle.eco_functions.specs.declared.improving.Judges.{Judges}
use Rattle.eco_functions.specs.Functions.{FunctionsValue, HasOneMore, IsInterpolant, LastIsInterpolant}

-- the edge has the mark of each part in each of its models
pub record IsAccepted (split : Split) (shared : List Var) (nodes : List Node) (root : Edge) : Type 0 where
  pub edge : IsEdge nodes root
  pub inputs : length (inputs_of nodes) ≡ length shared
  pub between : IsInterpolant split shared nodes root

-- the judges' functions are over the shared variables, and a question may learn a clause
pub record AreJudges (judges : Judges) : Type 0 where
  pub above : length judges.above.shared ≡ length judges.shared.now
  pub below : length judges.below.shared ≡ length judges.shared.now
  pub limit : 1 ≤ judges.limit

-- both judges accept the edge
pub record HasMarks (judges : Judges) (nodes : List Node) (root : Edge) : Type 0 where
  pub edge : IsEdge nodes root
  pub inputs : length (inputs_of nodes) ≡ length judges.shared.now
  pub marked_above : HasMark judges.above nodes root
  pub marked_below : HasMark judges.below nodes root

-- the edges reach no more and-nodes than the others, and with the complements of operands no more either
pub record ReachNoMoreThan (nodes : List Node) (edges : List Edge) (older : List Node) (others : List Edge) : Type 0 where
  pub gates : AreNoMore (IsGate nodes edges) (IsGate older others)
  pub items : AreNoMore (IsItem nodes edges) (IsItem older others)

-- all of the list but its last element
abbrev pub without_last : {X : Type 0} → List X → List X
without_last xs = take (length xs - 1) xs

-- the roots, or those where the edge stands in place of the last one; they reach no more
pub record AreChosen (nodes : List Node) (roots : List Edge) (edge : Edge) (chosen : List Edge) : Type 0 where
  pub last : (chosen ≡ roots) ⊎ (chosen ≡ without_last roots ++ edge ∷ [])
  pub no_more : ReachNoMoreThan nodes chosen nodes roots

-- the functions of all targets but the last one
abbrev pub first_of : FunctionsValue → FunctionsValue
first_of functions = record functions { roots = without_last functions.roots; counts = without_last functions.counts }

-- there is a last target, which may read each signal
pub record LastReadsAll (functions : FunctionsValue) : Type 0 where
  pub some : 1 ≤ length functions.roots
  pub counts : functions.counts ≡ without_last functions.counts ++ length functions.base ∷ []

-- the last function gave way to another one over the same signals; those before it keep their values, and all reach no more
pub record IsReplaced (old new : FunctionsValue) : Type 0 where
  pub most : ℕ
  pub grows : Grows old.nodes new.nodes most
  pub more : HasOneMore (first_of old) [] new
  pub no_more : ReachNoMoreThan new.nodes new.roots old.nodes old.roots

-- between each two parts of clauses between which both the last root of the old functions and this root of another graph stand,
-- the last root of the new ones stands
abbrev pub StandsAsBoth : FunctionsValue → List Node → Edge → FunctionsValue → Type 0
StandsAsBoth old nodes root new =
    (split : Split) (shared : List Var) → LastIsInterpolant split shared old → IsInterpolant split shared nodes root →
    LastIsInterpolant split shared new

-- all is as it was, or the last function was replaced
abbrev pub IsImproved : FunctionsValue → FunctionsValue → Type 0
IsImproved old new = (new ≡ old) ⊎ IsReplaced old new
