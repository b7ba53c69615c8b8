-- How many nodes an interpolant may take.
use Rattle.std.specs.Prelude.{ℕ, ◌+◌, Bool, true, false, List, [], ◌∷◌, length, slice_index_or, sum_by, if◌then◌else◌}
use Rattle.eco_trace.specs.declared.clause.Lit.{Lit}
use Rattle.eco_trace.specs.Resolution.{Learnt}
use Rattle.eco_trace.specs.Split.{Split}

-- the number of literals in the clauses of A
abbrev pub literals_of_a : List (List Lit) → List Bool → ℕ
literals_of_a [] marks = 0
literals_of_a (clause ∷ clauses) [] = 0
literals_of_a (clause ∷ clauses) (true ∷ marks) = length clause + literals_of_a clauses marks
literals_of_a (clause ∷ clauses) (false ∷ marks) = literals_of_a clauses marks

-- the number of links in the chains of the learnt clauses
abbrev pub links_of : List Learnt → ℕ
links_of learnt = sum_by (λ n. length n.links) learnt

-- the number of literals that the clause at this place has, if it belongs to A
abbrev pub leaf_size : Split → ℕ → ℕ
leaf_size s k = if slice_index_or s.marks k false then length (slice_index_or s.clauses k []) else 0
