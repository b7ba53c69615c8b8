-- Two watched literals of each clause, and what is kept of them while a search goes on.
use Rattle.std.specs.Prelude.{◌≡◌, ◌≢◌, ◌⊎◌, ℕ, ◌+◌, ◌*◌, ◌≤◌, List, length, take, slice_get, Some, Contains}
use Rattle.eco_trace.specs.declared.clause.Lit.{Lit}
use Rattle.eco_trace.specs.Clauses.{complement, AreFormed}
use Rattle.eco_learn.specs.Trails.{Known}
use Rattle.eco_learn.specs.Reasons.{IsJustified}
use Rattle.eco_cdcl.specs.Entries.{Watch, list_of, HasEntry}
use Rattle.eco_cdcl.specs.Pairs.{Two, IsOneOf}

-- where these literals are true, the clause with this number holds
pub record HasTrue (clauses : List (List Lit)) (lits : List Lit) (i : ℕ) : Type 0 where
  pub clause : List Lit
  pub clause_at : slice_get clauses i ≡ Some clause
  pub lit : Lit
  pub member : Contains clause lit
  pub holds : Contains lits lit

-- the two literals guard the clause, as far as the first `done` of the literals that are true were gone through: where
-- one of the two is false by these, the clause holds; and the two are of different variables, unless the clause holds by
-- the one
pub record Guards (clauses : List (List Lit)) (lits : List Lit) (done : ℕ) (i : ℕ) (two : Two) : Type 0 where
  pub fallen : (x : Lit) → IsOneOf two x → Contains (take done lits) (complement x) → HasTrue clauses lits i
  pub apart : (two.one.var ≢ two.other.var) ⊎ Contains lits two.one

-- each clause that watches is guarded
abbrev pub Held : List (List Lit) → List Lit → ℕ → List Two → Type 0
Held clauses lits done pairs = (i : ℕ) (two : Two) → slice_get pairs i ≡ Some two → Guards clauses lits done i two

-- what a clause watches are literals of it, the copy is one of it, and it stands in their lists
pub record IsWatched (clauses : List (List Lit)) (lists : List (List Watch)) (i : ℕ) (two : Two) : Type 0 where
  pub members : (x : Lit) (clause : List Lit) → IsOneOf two x → slice_get clauses i ≡ Some clause → Contains clause x
  pub copied : (clause : List Lit) → slice_get clauses i ≡ Some clause → two.lits ≡ clause
  pub listed : (x : Lit) → IsOneOf two x → HasEntry (list_of lists x) i

-- the blocker is a literal of the clause
pub record IsBlocked (clauses : List (List Lit)) (w : Watch) : Type 0 where
  pub clause : List Lit
  pub clause_at : slice_get clauses w.node.0 ≡ Some clause
  pub member : Contains clause w.blocker

-- the pairs and the lists fit together
pub record AreWatched (clauses : List (List Lit)) (pairs : List Two) (lists : List (List Watch)) : Type 0 where
  pub each : (i : ℕ) (two : Two) → slice_get pairs i ≡ Some two → IsWatched clauses lists i two
  pub blocked : (x : Lit) (w : Watch) → Contains (list_of lists x) w → IsBlocked clauses w

-- what a search keeps: the clauses are over the trail's variables, each literal of the trail has its reason, and every
-- clause that watches is guarded: now, and as it was at the end of each level
pub record IsReady (clauses : List (List Lit)) (k : Known) (done : ℕ) (pairs : List Two) (lists : List (List Watch)) : Type 0 where
  pub formed : AreFormed (record { vars = k.vars; clauses = clauses })
  pub justified : IsJustified clauses k
  pub wide : length lists ≡ 2 * k.vars + 2
  pub watched : AreWatched clauses pairs lists
  pub held : Held clauses k.lits done pairs
  pub within : done ≤ length k.lits
  pub marks_held : (m : ℕ) → Contains k.marks m → Held clauses (take m k.lits) m pairs
  pub marks_done : (m : ℕ) → Contains k.marks m → m ≤ done

-- the clause has an entry in the list, at this place or behind it
abbrev pub HasEntryFrom : List Watch → ℕ → ℕ → Type 0
HasEntryFrom list at i = (j : ℕ) × (w : Watch) × (at ≤ j) × (slice_get list j ≡ Some w) × (w.node.0 ≡ i)

-- while the entries of the literal that has become false are gone through: those before this place are done with
pub record IsWalking (clauses : List (List Lit)) (k : Known) (done : ℕ) (pairs : List Two) (lists : List (List Watch)) (x : Lit) (at : ℕ) : Type 0 where
  pub ready : IsReady clauses k done pairs lists
  pub full : length pairs ≡ length clauses
  pub here : slice_get k.lits done ≡ Some (complement x)
  pub passed : (i : ℕ) (two : Two) → slice_get pairs i ≡ Some two → IsOneOf two x → HasTrue clauses k.lits i ⊎ HasEntryFrom (list_of lists x) at i
