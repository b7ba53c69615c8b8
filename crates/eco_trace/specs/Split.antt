-- Clauses in two parts.
use Rattle.std.specs.Prelude.{◌≡◌, ◌↔◌, ℕ, Bool, true, false, List, Some, slice_get, Any}
use Rattle.eco_trace.specs.declared.clause.Var.{Var}
use Rattle.eco_trace.specs.declared.clause.Lit.{Lit}
use Rattle.eco_trace.specs.Clauses.{Valuation, HoldsIn}

-- clauses in two parts, A and B: the mark at a clause's place is `true` where it belongs to A
pub record Split : Type 0 where
  pub clauses : List (List Lit)
  pub marks : List Bool

-- the clause belongs to A (`true`) or to B (`false`)
abbrev pub BelongsTo : Split → Bool → List Lit → Type 0
BelongsTo s part clause = (k : ℕ) × (slice_get s.clauses k ≡ Some clause) × (slice_get s.marks k ≡ Some part)

-- the variable occurs in the clause
abbrev pub Mentions : List Lit → Var → Type 0
Mentions clause x = Any (λ l. l.var ≡ x) clause

-- the variable occurs in a clause of the part
abbrev pub OccursIn : Split → Bool → Var → Type 0
OccursIn s part x = (clause : List Lit) × BelongsTo s part clause × Mentions clause x

-- the variable occurs in both parts
pub record IsShared (s : Split) (x : Var) : Type 0 where
  pub in_a : OccursIn s true x
  pub in_b : OccursIn s false x

-- each clause of the part holds
abbrev pub IsModelOf : Split → Bool → Valuation → Type 0
IsModelOf s part v = (clause : List Lit) → BelongsTo s part clause → HoldsIn v clause

-- the set has just the variables that occur in the part
abbrev pub AreOfPart : Split → Bool → (Var → Bool) → Type 0
AreOfPart s part set = (x : Var) → (set x ≡ true) ↔ OccursIn s part x
