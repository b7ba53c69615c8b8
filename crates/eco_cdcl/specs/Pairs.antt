-- The two literals that a clause watches, beside a copy of the clause.
use Rattle.std.specs.Prelude.{◌≡◌, ◌⊎◌, ◌≤◌, ℕ, List, All, Some, map, length, slice_get, slice_range}
use Rattle.eco_trace.specs.declared.clause.Lit.{Lit}

-- the two literals that a clause watches, which are one where it has just one, and the literals of the clause
pub record Two : Type 0 where
  pub one : Lit
  pub other : Lit
  pub lits : List Lit

-- one of the two
abbrev pub IsOneOf : Two → Lit → Type 0
IsOneOf two x = (x ≡ two.one) ⊎ (x ≡ two.other)

-- one of the two that the clause with this number watches; it is this literal only where the clause watches no other
pub record IsBeside (pairs : List Two) (number : ℕ) (lit x : Lit) : Type 0 where
  pub two : Two
  pub two_at : slice_get pairs number ≡ Some two
  pub one_of : IsOneOf two x
  pub single : x ≡ lit → two.one ≡ two.other

-- the same clause with two other literals
abbrev pub moved_to : Two → Lit → Lit → Two
moved_to two one other = record { one = one; other = other; lits = two.lits }

-- the two literals that a clause watches, and between which places of a list the clause lies
pub record Seat : Type 0 where
  pub one : Lit
  pub other : Lit
  pub start : ℕ
  pub end : ℕ

-- the clause read from the list
abbrev pub two_of : List Lit → Seat → Two
two_of lits s = record { one = s.one; other = s.other; lits = slice_range lits s.start s.end }

abbrev pub twos_of : List Lit → List Seat → List Two
twos_of lits seats = map (two_of lits) seats

-- the places are those of the list
abbrev pub AreSeated : List Lit → List Seat → Type 0
AreSeated lits seats = All (λ s. (s.start ≤ s.end) × (s.end ≤ length lits)) seats
