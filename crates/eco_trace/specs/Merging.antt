-- How clauses are put together, literal by literal.
use Rattle.std.specs.Prelude.{◌≡◌, ◌≢◌, ◌↔◌, ◌⊎◌, ℕ, ◌+◌, ◌<◌, ◌≤◌, List, length, take, drop, AllPairs, Contains}
use Rattle.eco_trace.specs.declared.clause.Var.{Var}
use Rattle.eco_trace.specs.declared.clause.Lit.{Lit}
use Rattle.eco_trace.specs.declared.node.Link.{Link}
use Rattle.eco_trace.specs.Resolution.{Derives}
use Rattle.eco_trace.specs.Clauses.{complement, IsClause}

-- one of the two lists holds the literal
abbrev pub Either : List Lit → List Lit → Lit → Type 0
Either left right l = Contains left l ⊎ Contains right l

-- the variables of the list are no larger than this one
abbrev pub IsUpTo : List Lit → ℕ → Type 0
IsUpTo lits n = (l : Lit) → Contains lits l → l.var.0 ≤ n

-- the variables don't fall along the list
abbrev pub IsNonFalling : List Lit → Type 0
IsNonFalling lits = AllPairs (λ a b. a.var.0 ≤ b.var.0) lits

-- a clause with the literals of the front of a list
pub record HasTaken (sorted : List Lit) (count : ℕ) (clause : List Lit) : Type 0 where
  pub clause_itself : IsClause clause
  pub sound : (l : Lit) → Contains clause l → Contains (take count sorted) l
  pub complete : (l : Lit) → Contains (take count sorted) l → Contains clause l

-- the clause holds the old literals and this one
pub record Takes (old : List Lit) (lit : Lit) (new : List Lit) : Type 0 where
  pub clause_itself : IsClause new
  pub up_to : IsUpTo new lit.var.0
  pub keeps : (l : Lit) → Contains old l → Contains new l
  pub adds : Contains new lit
  pub only : (l : Lit) → Contains new l → Contains old l ⊎ (l ≡ lit)

-- the same, unless the literal is one of the pivot's: then nothing is added
pub record TakesUnless (pivot : Var) (old : List Lit) (lit : Lit) (new : List Lit) : Type 0 where
  pub clause_itself : IsClause new
  pub up_to : IsUpTo new lit.var.0
  pub keeps : (l : Lit) → Contains old l → Contains new l
  pub adds : lit.var ≢ pivot → Contains new lit
  pub only : (l : Lit) → Contains new l → Contains old l ⊎ ((l ≡ lit) × (lit.var ≢ pivot))

-- the clause holds the literal with the other sign
pub record Clashes (pivot : Var) (old : List Lit) (lit : Lit) : Type 0 where
  pub variable : lit.var ≢ pivot
  pub clash : Contains old (complement lit)

-- what two lists hold, but for the literals of one variable
pub record IsUnion (pivot : Var) (left right clause : List Lit) : Type 0 where
  pub clause_itself : IsClause clause
  pub members : (l : Lit) → Contains clause l ↔ (Either left right l × (l.var ≢ pivot))

-- the literal is the least of two clauses; what else they hold is left
pub record TakesLeast (left right : List Lit) (lit : Lit) (left_rest right_rest : List Lit) : Type 0 where
  pub left_clause : IsClause left_rest
  pub right_clause : IsClause right_rest
  pub here : Either left right lit
  pub later : (l : Lit) → Either left_rest right_rest l → Either left right l
  pub split : (l : Lit) → Either left right l → (l ≡ lit) ⊎ Either left_rest right_rest l
  pub least : (l : Lit) → Either left_rest right_rest l → lit.var.0 ≤ l.var.0
  pub shorter : length left_rest + length right_rest < length left + length right

-- the union of two clauses but for the literals of one variable, as far as it is made, and what is left of them
pub record IsMerging (pivot : Var) (left right made left_rest right_rest : List Lit) : Type 0 where
  pub made_clause : IsClause made
  pub left_clause : IsClause left_rest
  pub right_clause : IsClause right_rest
  pub behind : (a b : Lit) → Contains made a → Either left_rest right_rest b → a.var.0 ≤ b.var.0
  pub sound : (l : Lit) → Contains made l → Either left right l × (l.var ≢ pivot)
  pub rest : (l : Lit) → Either left_rest right_rest l → Either left right l
  pub complete : (l : Lit) → Either left right l → l.var ≢ pivot → Contains made l ⊎ Either left_rest right_rest l

-- a chain as far as it is walked: what the links that are left give from here on is what the whole chain gives
pub record IsDeriving (before : List (List Lit)) (begin : List Lit) (links : List Link) (count : ℕ) (so_far : List Lit) : Type 0 where
  pub clause_itself : IsClause so_far
  pub onward : (last : List Lit) → Derives before begin links last → Derives before so_far (drop count links) last
  pub back : (last : List Lit) → Derives before so_far (drop count links) last → Derives before begin links last
