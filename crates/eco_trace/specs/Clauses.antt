-- Variables, literals, clauses and their models.
use Rattle.std.specs.Prelude.{◌≡◌, ◌↔◌, ℕ, ◌-◌, ◌<◌, ◌≤◌, Bool, false, not, List, [], ◌∷◌, ◌++◌, slice_index_or, All, Any, AllPairs, Contains, map, if◌then◌else◌}
use Rattle.eco_trace.specs.declared.clause.Lit.{Lit}

-- the literal of the same variable with the other sign
abbrev pub complement : Lit → Lit
complement l = record { var = l.var; positive = not l.positive }

-- a clause: a set of literals that holds no variable with both signs, as the list in which the variables rise
abbrev pub IsClause : List Lit → Type 0
IsClause lits = AllPairs (λ a b. a.var.0 < b.var.0) lits

-- some variable stands in the list with both signs
abbrev pub HasBothSigns : List Lit → Type 0
HasBothSigns lits = (l : Lit) × Contains lits l × Contains lits (complement l)

-- the clause whose literals are just those of the list
pub record IsClauseOf (lits clause : List Lit) : Type 0 where
  pub clause_itself : IsClause clause
  pub members : (l : Lit) → Contains clause l ↔ Contains lits l

-- clauses over variables whose numbers are at most `vars`
pub record Clauses : Type 0 where
  pub vars : ℕ
  pub clauses : List (List Lit)

-- one clause more, behind the others
abbrev pub with_clause : Clauses → List Lit → Clauses
with_clause c clause = record c { clauses = c.clauses ++ clause ∷ [] }

-- the literal's variable is one of those from 1 to `vars`
pub record IsVarWithin (vars : ℕ) (l : Lit) : Type 0 where
  pub first : 1 ≤ l.var.0
  pub last : l.var.0 ≤ vars

-- clauses, whose variables are all from 1 to `vars`
pub record AreFormed (c : Clauses) : Type 0 where
  pub clauses_all : All IsClause c.clauses
  pub within : All (All (IsVarWithin c.vars)) c.clauses

-- a truth value for each variable, by its number
abbrev pub Valuation : Type 0
Valuation = ℕ → Bool

-- the variable has the literal's sign
abbrev pub IsTrueIn : Valuation → Lit → Type 0
IsTrueIn v l = v l.var.0 ≡ l.positive

-- some literal of the clause is true
abbrev pub HoldsIn : Valuation → List Lit → Type 0
HoldsIn v clause = Any (IsTrueIn v) clause

-- each of the clauses holds: the valuation is a model of them
abbrev pub Satisfies : Valuation → List (List Lit) → Type 0
Satisfies v clauses = All (HoldsIn v) clauses

-- the clauses have no model
abbrev pub IsUnsatisfiable : List (List Lit) → Type 0
IsUnsatisfiable clauses = (v : Valuation) → Satisfies v clauses → ⊥

-- the truth values that a list gives to the variables 1, 2, .., in order
abbrev pub valuation_of : List Bool → Valuation
valuation_of values n = slice_index_or values (n - 1) false

-- the literal's bit: that of its variable, or the other one
abbrev pub truth : Valuation → Lit → Bool
truth v l = if l.positive then v l.var.0 else not (v l.var.0)

-- the literals' bits
abbrev pub read : Valuation → List Lit → List Bool
read v lits = map (truth v) lits
