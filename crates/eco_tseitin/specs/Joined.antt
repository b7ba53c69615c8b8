-- How two encoded sides are joined.
use Rattle.std.specs.Prelude.{◌≡◌, ℕ, ◌+◌, true, false, List, [], ◌∷◌, ◌++◌, Some, length, map, slice_get}
use Rattle.eco_trace.specs.declared.clause.Lit.{Lit}
use Rattle.eco_trace.specs.declared.clause.Var.{Var}
use Rattle.eco_trace.specs.Adding.{equality, shifted}
use Rattle.eco_trace.specs.Clauses.{Clauses}
use Rattle.eco_tseitin.specs.declared.joining.Seam.{Seam}
use Rattle.eco_tseitin.specs.declared.sides.EncodedSide.{EncodedSide}
use Rattle.eco_tseitin.specs.declared.sides.TwoSides.{TwoSides}

-- the literal that is true where the variable is
abbrev pub positive : Var → Lit
positive x = record { var = x; positive = true }

-- the clauses that say that each literal is equal to the one at its place in another list
abbrev pub equalities : List Lit → List Lit → List (List Lit)
equalities [] bs = []
equalities (a ∷ xs) [] = []
equalities (a ∷ xs) (b ∷ ys) = equality a b ++ equalities xs ys

-- so many variables, in order, behind those from 1 to `after`
pub record AreNumbered (after count : ℕ) (vars : List Var) : Type 0 where
  pub count_is : length vars ≡ count
  pub numbers : (k : ℕ) (x : Var) → slice_get vars k ≡ Some x → x.0 ≡ after + 1 + k

-- the first side's clauses: its own, and those that make its base literals equal to the shared variables
abbrev pub first_clauses : List (List Lit) → List Lit → List Var → List (List Lit)
first_clauses own base shared = own ++ equalities base (map positive shared)

-- the second side's clauses: its own, their variables shifted, and those that make the shared variables equal to its
-- base literals, shifted too
abbrev pub second_clauses : ℕ → List (List Lit) → List Lit → List Var → List (List Lit)
second_clauses by own base shared = map (map (shifted by)) own ++ equalities (map positive shared) (map (shifted by) base)

-- the clauses of both sides, the first side's before the second's, each with the mark of its side, the shared variables, and
-- the second side's input literals
pub record IsSewn (first : Clauses) (base : List Lit) (second : EncodedSide) (made : Seam) : Type 0 where
  pub shared_are : AreNumbered first.vars (length base) made.shared.items
  pub own : List (List Lit)
  pub others : List (List Lit)
  pub own_are : own ≡ first_clauses first.clauses base made.shared.items
  pub others_are : others ≡ second_clauses (first.vars + length base) second.cnf.clauses second.base.items made.shared.items
  pub vars : made.marked.cnf.vars ≡ first.vars + length base + second.cnf.vars
  pub clauses : made.marked.cnf.clauses ≡ own ++ others
  pub marks : made.marked.marks.items ≡ map (λ clause. true) own ++ map (λ clause. false) others
  pub other_reads : made.other.items ≡ map (shifted (first.vars + length base)) second.inputs.items

-- Two encoded sides, joined: the variables are those of the first, then one for each base edge, then those of the second,
-- which are shifted. The first side's clauses come first, and are marked `true`; the second's are marked `false`.
pub record IsJoined (first second : EncodedSide) (made : TwoSides) : Type 0 where
  pub shared_are : AreNumbered first.cnf.vars (length first.base.items) made.shared.items
  pub own : List (List Lit)
  pub others : List (List Lit)
  pub own_are : own ≡ first_clauses first.cnf.clauses first.base.items made.shared.items
  pub others_are : others ≡ second_clauses (first.cnf.vars + length first.base.items) second.cnf.clauses second.base.items made.shared.items
  pub vars : made.cnf.vars ≡ first.cnf.vars + length first.base.items + second.cnf.vars
  pub clauses : made.cnf.clauses ≡ own ++ others
  pub marks : made.side.items ≡ map (λ clause. true) own ++ map (λ clause. false) others
  pub one_reads : made.one.items ≡ first.inputs.items
  pub other_reads : made.other.items ≡ map (shifted (first.cnf.vars + length first.base.items)) second.inputs.items
