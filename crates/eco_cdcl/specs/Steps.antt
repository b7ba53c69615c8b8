-- The steps of a search, and what they come to.
use Rattle.std.specs.Prelude.{◌≡◌, ◌≢◌, ℕ, ◌-◌, ◌<◌, ◌≤◌, List, [], length, take, slice_get, Some, All, Any, Contains}
use Rattle.eco_trace.specs.declared.clause.Lit.{Lit}
use Rattle.eco_trace.specs.declared.node.NodeId.{NodeId}
use Rattle.eco_trace.specs.Clauses.{Clauses, complement}
use Rattle.eco_trace.specs.Freshness.{IsNews}
use Rattle.eco_trace.specs.Resolution.{Learnt, Proof, clauses_of, with_learnt}
use Rattle.eco_trace.specs.Verdicts.{IsRefutedWithin, IsSpent}
use Rattle.eco_learn.specs.Trails.{Known}
use Rattle.eco_learn.specs.Reasons.{IsWrong, IsFalseBut}
use Rattle.eco_learn.specs.Lessons.{Adds}
use Rattle.eco_cdcl.specs.declared.visit.Visit.{Visit}
use Rattle.eco_cdcl.specs.declared.visit.Visit.TheVariants.{Next, Wrong}
use Rattle.eco_cdcl.specs.declared.turn.Step.{Step}
use Rattle.eco_cdcl.specs.declared.turn.Step.TheVariants.{Decided, Restarted, Done, Conflict}
use Rattle.eco_cdcl.specs.declared.turn.Turn.{Turn}
use Rattle.eco_cdcl.specs.declared.turn.Turn.TheVariants.{Solved, Refuted, Learns}
use Rattle.eco_cdcl.specs.declared.turn.Ending.{Ending}
use Rattle.eco_cdcl.specs.declared.turn.Ending.TheVariants.{Model, Empty, Limit}
use Rattle.eco_cdcl.specs.Entries.{Watch, list_of}
use Rattle.eco_cdcl.specs.Pairs.{Two, IsOneOf}
use Rattle.eco_cdcl.specs.Watching.{Guards, IsReady, IsWalking}

-- literals may have come to the trail, and none was taken back
pub record IsLonger (old new : Known) : Type 0 where
  pub vars : new.vars ≡ old.vars
  pub length : length old.lits ≤ length new.lits

-- the clause of an entry of the false literal x, and a literal that it watches; the literal is x itself only where
-- the clause watches no other
pub record IsAt (pairs : List Two) (list : List Watch) (x : Lit) (at : ℕ) (node : NodeId) (other : Lit) : Type 0 where
  pub watch : Watch
  pub watch_at : slice_get list at ≡ Some watch
  pub node_is : watch.node ≡ node
  pub two : Two
  pub two_at : slice_get pairs node.0 ≡ Some two
  pub other_in : IsOneOf two other
  pub single : other ≡ x → two.one ≡ two.other

-- the literal is another one of the clause, and isn't false
pub record IsNext (clauses : List (List Lit)) (lits : List Lit) (node : NodeId) (other next : Lit) : Type 0 where
  pub clause : List Lit
  pub clause_at : slice_get clauses node.0 ≡ Some clause
  pub member : Contains clause next
  pub different : next ≢ other
  pub standing : Contains lits (complement next) → ⊥

-- the clause's literals are false but for this one
pub record IsLast (clauses : List (List Lit)) (lits : List Lit) (node : NodeId) (other : Lit) : Type 0 where
  pub clause : List Lit
  pub clause_at : slice_get clauses node.0 ≡ Some clause
  pub others : IsFalseBut lits clause other

-- the literals from one place up to another are false, but for this one
abbrev pub AreFalseBetween : List Lit → List Lit → Lit → ℕ → ℕ → Type 0
AreFalseBetween lits clause other start end =
    (i : ℕ) (x : Lit) → start ≤ i → i < end → slice_get clause i ≡ Some x → x ≢ other → Contains lits (complement x)

-- what becomes of an entry: the walk goes on at a place, with fewer entries before it than so many; or the clause is wrong
abbrev pub IsVisited : List (List Lit) → Known → ℕ → List Two → List (List Watch) → Lit → ℕ → Visit → Type 0
IsVisited clauses k done pairs lists x left (Next at) =
    IsWalking clauses k done pairs lists x at × (length (list_of lists x) - at < left)
IsVisited clauses k done pairs lists x left (Wrong node) = IsWrong clauses k.lits node

-- two literals with which a clause may begin to watch: they are literals of it, and guard it, now and at the end of each
-- level
pub record MayBegin (clauses : List (List Lit)) (k : Known) (done : ℕ) (node : NodeId) (one other : Lit) : Type 0 where
  pub clause : List Lit
  pub clause_at : slice_get clauses node.0 ≡ Some clause
  pub one_in : Contains clause one
  pub other_in : Contains clause other
  pub guards : Guards clauses k.lits done node.0 (record { one = one; other = other; lits = clause })
  pub marks_guards : (m : ℕ) → Contains k.marks m → Guards clauses (take m k.lits) m node.0 (record { one = one; other = other; lits = clause })

-- a search goes on: each clause of the proof watches, and the learner has room for the variables
pub record IsOn (p : Proof) (k : Known) (done : ℕ) (pairs : List Two) (lists : List (List Watch)) (room : ℕ) : Type 0 where
  pub ready : IsReady (clauses_of p) k done pairs lists
  pub full : length pairs ≡ length (clauses_of p)
  pub room_for : room ≡ k.vars

-- each clause has a literal that is true
abbrev pub AllHold : List (List Lit) → List Lit → Type 0
AllHold clauses lits = All (λ clause. Any (Contains lits) clause) clauses

-- what a step comes to: one more level, a new beginning, where the search may begin again at least once more, a model,
-- or a clause that is wrong
abbrev pub IsStepped : List (List Lit) → ℕ → Known → Known → Step → Type 0
IsStepped clauses restarts old k Decided = (length old.lits < length k.lits) × (length k.lits ≤ k.vars)
IsStepped clauses restarts old k Restarted = 0 < restarts
IsStepped clauses restarts old k Done = AllHold clauses k.lits
IsStepped clauses restarts old k (Conflict node) = IsWrong clauses k.lits node

-- the proof has learnt one more clause, which was news and isn't empty
pub record Advances (old new : Proof) : Type 0 where
  pub learnt : Learnt
  pub added : new ≡ with_learnt old learnt
  pub news : IsNews (clauses_of old) learnt.clause
  pub some : learnt.clause ≢ []

-- what a turn comes to: a model, a refutation, or one more clause
abbrev pub IsTurned : Proof → Proof → Known → ℕ → List Two → List (List Watch) → ℕ → Turn → Type 0
IsTurned old new k done pairs lists room Solved = (new ≡ old) × AllHold (clauses_of old) k.lits
IsTurned old new k done pairs lists room Refuted = Adds old new []
IsTurned old new k done pairs lists room Learns = Advances old new × IsOn new k done pairs lists room

-- what all turns come to, on these clauses and within this many learnt ones
abbrev pub IsEnded : Clauses → ℕ → Proof → Known → Ending → Type 0
IsEnded c limit p k Model = (p.originals ≡ c.clauses) × AllHold (clauses_of p) k.lits
IsEnded c limit p k Empty = IsRefutedWithin c limit p
IsEnded c limit p k Limit = IsSpent c limit p
