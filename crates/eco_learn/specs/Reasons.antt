-- Why the literals of a trail are true, and when a clause is wrong.
use Rattle.std.specs.Prelude.{◌≡◌, ◌≢◌, ℕ, ◌<◌, ◌≤◌, List, slice_get, take, Option, Some, None, Contains}
use Rattle.eco_trace.specs.declared.clause.Lit.{Lit}
use Rattle.eco_trace.specs.declared.node.NodeId.{NodeId}
use Rattle.eco_trace.specs.Clauses.{complement}
use Rattle.eco_learn.specs.Trails.{Known}

-- where these literals are true, those of the clause are false, but for this one
abbrev pub IsFalseBut : List Lit → List Lit → Lit → Type 0
IsFalseBut lits clause l = (x : Lit) → Contains clause x → x ≢ l → Contains lits (complement x)

-- the clause of the node holds the literal, and its others are false where these are true
pub record IsReasonOf (clauses : List (List Lit)) (earlier : List Lit) (l : Lit) (node : NodeId) : Type 0 where
  pub clause : List Lit
  pub clause_at : slice_get clauses node.0 ≡ Some clause
  pub member : Contains clause l
  pub others : IsFalseBut earlier clause l

-- why the literal at this place is true: a clause forces it, or it was decided
abbrev pub IsGrounded : List (List Lit) → Known → ℕ → Lit → Option NodeId → Type 0
IsGrounded clauses k place l None = Contains k.marks place
IsGrounded clauses k place l (Some node) = IsReasonOf clauses (take place k.lits) l node

-- each literal of the trail is a decision, or forced by its clause from the literals before it
pub record IsJustified (clauses : List (List Lit)) (k : Known) : Type 0 where
  pub each : (place : ℕ) (l : Lit) (why : Option NodeId) → slice_get k.lits place ≡ Some l → slice_get k.reasons place ≡ Some why → IsGrounded clauses k place l why

-- each literal of the node's clause is false where these are true
pub record IsWrong (clauses : List (List Lit)) (lits : List Lit) (node : NodeId) : Type 0 where
  pub clause : List Lit
  pub clause_at : slice_get clauses node.0 ≡ Some clause
  pub refuted : (x : Lit) → Contains clause x → Contains lits (complement x)

-- the clause of the node forces the literal at this place from those before it
pub record IsReasonAt (clauses : List (List Lit)) (lits : List Lit) (place : ℕ) (node : NodeId) : Type 0 where
  pub lit : Lit
  pub lit_at : slice_get lits place ≡ Some lit
  pub reason : IsReasonOf clauses (take place lits) lit node

-- no decision stands from one place up to another
abbrev pub AreForced : Known → ℕ → ℕ → Type 0
AreForced k from end = (place : ℕ) → from ≤ place → place < end → Contains k.marks place → ⊥
