-- Clauses of listed literals, one behind the other.
use Rattle.std.specs.Prelude.{ℕ, ◌+◌, ◌==◌, nat_lt, true, not, List, [], ◌∷◌, ◌++◌, Option, Some, None, option_to_list, if◌then◌else◌}
use Rattle.std.specs.Option.{option_map, option_and_then}
use Rattle.eco_trace.specs.declared.clause.Lit.{Lit}
use Rattle.eco_trace.specs.Clauses.{Clauses}

-- the literal that the variable of this number is 1
abbrev pub numbered : ℕ → Lit
numbered n = record { var = record { 0 = n }; positive = true }

-- a variable that is 1 in each model, and its literal
abbrev pub constant : Lit
constant = numbered 1

-- the clause with one literal more, by rising variables; none where the literal's variable stands in it with the other sign
abbrev pub with_literal : Lit → List Lit → Option (List Lit)
with_literal l [] = Some (l ∷ [])
with_literal l (m ∷ clause) =
    if nat_lt l.var.0 m.var.0 then Some (l ∷ m ∷ clause)
    else if l.var.0 == m.var.0 then (if (if l.positive then m.positive else not m.positive) then Some (m ∷ clause) else None)
    else option_map (λ rest. m ∷ rest) (with_literal l clause)

-- the clause of the listed literals, by rising variables, each once; none where a variable has both signs
unfoldable pub clause_of : List Lit → Option (List Lit)
clause_of [] = Some []
clause_of (l ∷ lits) = option_and_then (with_literal l) (clause_of lits)

-- the clause of these literals behind the others; it is left out where a variable has both signs
abbrev pub with_list : Clauses → List Lit → Clauses
with_list c lits = record c { clauses = c.clauses ++ option_to_list (clause_of lits) }

-- the clauses of several lists, in order
abbrev pub with_lists : Clauses → List (List Lit) → Clauses
with_lists c [] = c
with_lists c (lits ∷ lists) = with_lists (with_list c lits) lists

-- so many new variables, with the next numbers
abbrev pub with_variables : ℕ → Clauses → Clauses
with_variables more c = record c { vars = c.vars + more }

-- no clauses yet, over so many variables
abbrev pub no_clauses : ℕ → Clauses
no_clauses vars = record { vars = vars; clauses = [] }

-- the literal of the next variable that is not yet used
abbrev pub next_literal : Clauses → Lit
next_literal c = numbered (c.vars + 1)
