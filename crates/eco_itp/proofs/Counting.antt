-- The bound on the nodes, clause by clause.
use Rattle.std.proofs.Common.{◌≡◌, ℕ, zero, suc, ◌+◌, ◌<◌, ◌≤◌, Bool, true, false, cond, List, [], ◌∷◌, Some, length, get_or, take, ◌∙◌, ap, refl, arith}
use Rattle.std.specs.List.{slice_get}
use Rattle.std.proofs.lemmas.Option.{get_or_from_slice_get, slice_get_within}
use Rattle.std.proofs.lemmas.List.Sums.{sum_by_more, sum_by-take-le}
use Rattle.eco_trace.specs.declared.node.Link.{Link}
use Rattle.eco_trace.specs.Resolution.{Learnt}
use Rattle.eco_trace.specs.declared.clause.Lit.{Lit}
use Rattle.eco_trace.specs.Split.{Split}
use Rattle.eco_itp.specs.Bound.{literals_of_a, links_of, leaf_size}

-- one more clause
pub literals_more : (clauses : List (List Lit)) (marks : List Bool) (k : ℕ) → k < length clauses → k < length marks → literals_of_a (take (suc k) clauses) (take (suc k) marks) ≡ literals_of_a (take k clauses) (take k marks) + cond (get_or marks k false) (length (get_or clauses k [])) 0
literals_more [] marks k lt lt' = absurd (omega arith)
literals_more (c ∷ cs) [] k lt lt' = absurd (omega arith)
literals_more (c ∷ cs) (true ∷ marks) zero lt lt' = omega arith
literals_more (c ∷ cs) (false ∷ marks) zero lt lt' = omega arith
literals_more (c ∷ cs) (true ∷ marks) (suc k) lt lt' = omega (arith, literals_more cs marks k (omega arith) (omega arith))
literals_more (c ∷ cs) (false ∷ marks) (suc k) lt lt' = literals_more cs marks k (omega arith) (omega arith)

-- the first clauses have no more literals than all
pub literals_front : (clauses : List (List Lit)) (marks : List Bool) (k : ℕ) → literals_of_a (take k clauses) (take k marks) ≤ literals_of_a clauses marks
literals_front [] marks zero = omega arith
literals_front [] marks (suc k) = omega arith
literals_front (c ∷ cs) [] zero = omega arith
literals_front (c ∷ cs) [] (suc k) = omega arith
literals_front (c ∷ cs) (m ∷ marks) zero = omega arith
literals_front (c ∷ cs) (true ∷ marks) (suc k) = omega (arith, literals_front cs marks k)
literals_front (c ∷ cs) (false ∷ marks) (suc k) = literals_front cs marks k

-- the bound of a clause of A is the number of its literals
pub leaf_size_of_a : (s : Split) (k : ℕ) (clause : List Lit) → get_or s.marks k false ≡ true → slice_get s.clauses k ≡ Some clause → length clause ≡ leaf_size s k
leaf_size_of_a s k clause mark at = rw (mark, get_or_from_slice_get s.clauses k clause [] at) refl

-- one more chain
pub links_more : (learnt : List Learnt) (k : ℕ) (n : Learnt) (links : List Link) → slice_get learnt k ≡ Some n → n.links ≡ links → links_of (take (k + 1) learnt) ≡ links_of (take k learnt) + length links
links_more learnt k n links at same =
    let within = slice_get_within learnt k n at in
    sum_by_more (λ (n : Learnt). length n.links) learnt k n within ∙ ap (λ (m : Learnt). links_of (take k learnt) + length m.links) (get_or_from_slice_get learnt k n n at) ∙ ap (λ (list : List Link). links_of (take k learnt) + length list) same

-- the first chains have no more links than all
pub links_front : (learnt : List Learnt) (k : ℕ) → links_of (take k learnt) ≤ links_of learnt
links_front learnt k = sum_by-take-le (λ (n : Learnt). length n.links) learnt k
