-- Clauses that are added to others, and variables behind others.
use Rattle.std.specs.Prelude.{◌≡◌, ℕ, ◌+◌, ◌≤◌, List, [], ◌∷◌, ◌++◌}
use Rattle.std.specs.List.{AllZip}
use Rattle.eco_trace.specs.declared.clause.Lit.{Lit}
use Rattle.eco_trace.specs.Clauses.{Clauses, Valuation, IsClauseOf, complement}

-- clauses stand behind the others, over as many variables or more
pub record Extends (old new : Clauses) : Type 0 where
  pub vars : old.vars ≤ new.vars
  pub more : List (List Lit)
  pub behind : new.clauses ≡ old.clauses ++ more

-- behind the others stands a clause of each of these lists of literals, in order, over the same variables
pub record AddsClausesOf (old new : Clauses) (wanted : List (List Lit)) : Type 0 where
  pub vars : new.vars ≡ old.vars
  pub added : List (List Lit)
  pub behind : new.clauses ≡ old.clauses ++ added
  pub clauses_of : AllZip IsClauseOf wanted added

-- these clauses too, behind the others
abbrev pub with_clauses : Clauses → List (List Lit) → Clauses
with_clauses c more = record c { clauses = c.clauses ++ more }

-- the two clauses that say that two literals are equal
abbrev pub equality : Lit → Lit → List (List Lit)
equality a b = (complement a ∷ b ∷ []) ∷ (a ∷ complement b ∷ []) ∷ []

-- the literal with a variable whose number is larger by so much
abbrev pub shifted : ℕ → Lit → Lit
shifted by l = record { var = record { 0 = l.var.0 + by }; positive = l.positive }

-- the values of the variables behind the first ones
abbrev pub behind : ℕ → Valuation → Valuation
behind first v x = v (x + first)
