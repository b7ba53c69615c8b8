-- What a scan of the clauses tells, and what holds of the trail all along.
use Rattle.std.specs.Prelude.{◌≡◌, ◌⊎◌, ℕ, ◌<◌, ◌≤◌, List, length, take, slice_get, Option, Some, None, All, Contains}
use Rattle.eco_trace.specs.declared.clause.Lit.{Lit}
use Rattle.eco_trace.specs.declared.node.NodeId.{NodeId}
use Rattle.eco_trace.specs.Clauses.{complement, IsVarWithin}
use Rattle.eco_trace.specs.Freshness.{Lacks, IsSatisfiedOrUnresolved}
use Rattle.eco_learn.specs.declared.taken.Truth.{Truth}
use Rattle.eco_learn.specs.declared.taken.Truth.TheVariants.{True, False, Open}
use Rattle.eco_learn.specs.Trails.{Known, IsWhole}
use Rattle.eco_learn.specs.Reasons.{IsFalseBut, IsJustified, IsWrong}
use Rattle.eco_scan.specs.declared.judge.Judgement.{Judgement}
use Rattle.eco_scan.specs.declared.judge.Judgement.TheVariants.{Wrong, Forces, Unforced}
use Rattle.eco_scan.specs.declared.propagate.Turn.{Turn}
use Rattle.eco_scan.specs.declared.propagate.Turn.TheVariants.{Went, Whole, Failed}

-- nothing is known of a literal of the clause, and the others are false
pub record IsForcing (lits clause : List Lit) (l : Lit) : Type 0 where
  pub member : Contains clause l
  pub lacking : Lacks lits l
  pub others : IsFalseBut lits clause l

-- what unit propagation from these literals gets from the clause
abbrev pub IsJudged : List Lit → List Lit → Judgement → Type 0
IsJudged lits clause Wrong = (x : Lit) → Contains clause x → Contains lits (complement x)
IsJudged lits clause (Forces l) = IsForcing lits clause l
IsJudged lits clause Unforced = IsSatisfiedOrUnresolved lits clause

-- what a literal more says, where the others are all false
abbrev pub first_of : Lit → Truth → Judgement
first_of l True = Unforced
first_of l False = Wrong
first_of l Open = Forces l

-- and where they are but for one of which nothing is known
abbrev pub second_of : Lit → Truth → Judgement
second_of l True = Unforced
second_of l False = Forces l
second_of l Open = Unforced

-- the trail fits the clauses: its variables are theirs, each literal has a reason or was decided, and where a level
-- begins unit propagation gets nothing from any clause
pub record IsReady (clauses : List (List Lit)) (k : Known) : Type 0 where
  pub within : All (All (IsVarWithin k.vars)) clauses
  pub justified : IsJustified clauses k
  pub unforced : (mark : ℕ) → Contains k.marks mark → All (IsSatisfiedOrUnresolved (take mark k.lits)) clauses

-- from the first of the clauses unit propagation gets nothing
abbrev pub AreSatisfiedOrUnresolvedUpTo : List (List Lit) → List Lit → ℕ → Type 0
AreSatisfiedOrUnresolvedUpTo clauses lits n = (i : ℕ) (clause : List Lit) → i < n → slice_get clauses i ≡ Some clause → IsSatisfiedOrUnresolved lits clause

-- either nothing is new, and from the first of the clauses unit propagation gets nothing, or a literal is
abbrev pub ArePassed : List (List Lit) → Known → Known → ℕ → Type 0
ArePassed clauses old new n = ((new ≡ old) × AreSatisfiedOrUnresolvedUpTo clauses old.lits n) ⊎ (length old.lits < length new.lits)

-- the same of one clause
abbrev pub IsVisited : List (List Lit) → Known → Known → NodeId → Type 0
IsVisited clauses old new node = ((new ≡ old) × ((clause : List Lit) → slice_get clauses node.0 ≡ Some clause → IsSatisfiedOrUnresolved old.lits clause)) ⊎ (length old.lits < length new.lits)

-- the outcome of a turn: a literal more, or truth values for all variables from which unit propagation gets nothing,
-- or a clause all of whose literals are false
abbrev pub IsTurn : List (List Lit) → Known → Known → Turn → Type 0
IsTurn clauses old new Went = (length old.lits < length new.lits) × (length new.lits ≤ new.vars)
IsTurn clauses old new Whole = IsWhole new.vars new.lits × All (IsSatisfiedOrUnresolved new.lits) clauses
IsTurn clauses old new (Failed node) = IsWrong clauses new.lits node

-- a clause is wrong, or all variables have truth values, and unit propagation gets nothing
abbrev pub IsPropagated : List (List Lit) → Known → Option NodeId → Type 0
IsPropagated clauses k None = IsWhole k.vars k.lits × All (IsSatisfiedOrUnresolved k.lits) clauses
IsPropagated clauses k (Some node) = IsWrong clauses k.lits node
