-- Sets of variables, and the clause that they mark on a trail.
use Rattle.std.specs.Prelude.{◌≡◌, ◌≢◌, ◌↔◌, ◌⊎◌, ℕ, ◌+◌, ◌<◌, ◌≤◌, Bool, true, List, length, take, slice_get, Option, Some, None, Contains}
use Rattle.eco_trace.specs.declared.clause.Lit.{Lit}
use Rattle.eco_trace.specs.declared.node.NodeId.{NodeId}
use Rattle.eco_trace.specs.declared.node.Link.{Link}
use Rattle.eco_trace.specs.Clauses.{complement, IsClause}
use Rattle.eco_trace.specs.Resolution.{Gives}
use Rattle.eco_learn.specs.Trails.{Known, end_of, lits_at}
use Rattle.eco_learn.specs.Reasons.{IsFalseBut}

-- the variable of this number is in the set
abbrev pub IsIn : List Bool → ℕ → Type 0
IsIn marks v = slice_get marks v ≡ Some true

-- the clause has a literal of this variable
pub record HasVar (clause : List Lit) (v : ℕ) : Type 0 where
  pub lit : Lit
  pub member : Contains clause lit
  pub variable : lit.var.0 ≡ v

-- the list has a literal of each variable in the set
abbrev pub HaveBeenFound : List Bool → List Lit → Type 0
HaveBeenFound marks found = (v : ℕ) → IsIn marks v → HasVar found v

-- the set has got the variables of the clause
pub record HasGot (old : List Bool) (clause : List Lit) (new : List Bool) : Type 0 where
  pub long : length new ≡ length old
  pub kept : (v : ℕ) → IsIn old v → IsIn new v
  pub got : (v : ℕ) → HasVar clause v → IsIn new v
  pub only : (v : ℕ) → IsIn new v → IsIn old v ⊎ HasVar clause v

-- the set has got the variables of the clause, but for this one, which it has lost
pub record HasTurned (old : List Bool) (clause : List Lit) (pivot : ℕ) (new : List Bool) : Type 0 where
  pub long : length new ≡ length old
  pub lost : IsIn new pivot → ⊥
  pub kept : (v : ℕ) → v ≢ pivot → IsIn old v → IsIn new v
  pub got : (v : ℕ) → v ≢ pivot → HasVar clause v → IsIn new v
  pub only : (v : ℕ) → IsIn new v → IsIn old v ⊎ HasVar clause v

-- the variable of the literal at this place is in the set
pub record IsSeenAt (lits : List Lit) (marks : List Bool) (place : ℕ) : Type 0 where
  pub lit : Lit
  pub lit_at : slice_get lits place ≡ Some lit
  pub seen : IsIn marks lit.var.0

-- from one place up to another no literal's variable is in the set
abbrev pub AreUnseen : List Lit → List Bool → ℕ → ℕ → Type 0
AreUnseen lits marks from end = (place : ℕ) → from ≤ place → place < end → IsSeenAt lits marks place → ⊥

-- the clause of the literals that are false where these are true, and whose variables are in the set
pub record IsChosen (lits : List Lit) (marks : List Bool) (clause : List Lit) : Type 0 where
  pub clause_itself : IsClause clause
  pub members : (x : Lit) → Contains clause x ↔ (Contains lits (complement x) × IsIn marks x.var.0)

-- of the variables of a list, the literals that are false where these are true and whose variables are in the set
pub record AreChosen (lits : List Lit) (marks : List Bool) (found clause : List Lit) : Type 0 where
  pub only : (x : Lit) → Contains clause x → Contains lits (complement x) × IsIn marks x.var.0
  pub all : (x : Lit) → Contains lits (complement x) → IsIn marks x.var.0 → HasVar found x.var.0 → Contains clause x

-- the chain gives the clause that the set marks on the trail
pub record IsSoFar (clauses : List (List Lit)) (k : Known) (start : NodeId) (links : List Link) (marks : List Bool) : Type 0 where
  pub long : length marks ≡ k.vars + 1
  pub clause : List Lit
  pub given : Gives clauses start links clause
  pub chosen : IsChosen k.lits marks clause

-- the marks have turned from the literal at this place to the others of its reason
pub record IsStep (clauses : List (List Lit)) (lits : List Lit) (place : ℕ) (node : NodeId) (old new : List Bool) : Type 0 where
  pub lit : Lit
  pub lit_at : slice_get lits place ≡ Some lit
  pub clause : List Lit
  pub clause_at : slice_get clauses node.0 ≡ Some clause
  pub turned : HasTurned old clause lit.var.0 new

-- a place from the first one on with a marked literal, and no other such place: a unique implication point, where
-- the first place begins a level
pub record IsPoint (k : Known) (marks : List Bool) (first place : ℕ) : Type 0 where
  pub from : first ≤ place
  pub seen : IsSeenAt k.lits marks place
  pub before : AreUnseen k.lits marks first place
  pub behind : AreUnseen k.lits marks (place + 1) (length k.lits)

-- nothing is marked, or of one level and those above it only the literal at a place is
abbrev pub IsWalked : Known → List Bool → Option ℕ → Type 0
IsWalked k marks None = AreUnseen k.lits marks 0 (length k.lits)
IsWalked k marks (Some place) = (level : ℕ) × (level < length k.marks) × IsPoint k marks (end_of k level) place

-- among the literals of the clause but for this one, all of which are false, the one that became false last did so at
-- this place
pub record IsLast (lits clause : List Lit) (l : Lit) (place : ℕ) : Type 0 where
  pub other : Lit
  pub member : Contains clause other
  pub different : other ≢ l
  pub other_at : slice_get lits place ≡ Some (complement other)
  pub upto : (x : Lit) → Contains clause x → x ≢ l → Contains (take (place + 1) lits) (complement x)

-- the same, or there is no other
abbrev pub IsLastOf : List Lit → List Lit → Lit → Option ℕ → Type 0
IsLastOf lits clause l None = (x : Lit) → Contains clause x → x ≡ l
IsLastOf lits clause l (Some place) = IsLast lits clause l place

-- the literal became false above a level, at which the clause's others are false
pub record IsAbove (k : Known) (clause : List Lit) (l : Lit) : Type 0 where
  pub member : Contains clause l
  pub level : ℕ
  pub lower : level < length k.marks
  pub place : ℕ
  pub place_at : slice_get k.lits place ≡ Some (complement l)
  pub from : end_of k level ≤ place
  pub others : IsFalseBut (lits_at k level) clause l
