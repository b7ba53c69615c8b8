-- Rows of bits, all of one length: how many there are, and how many of them a list doesn't have.
use Rattle.std.specs.Prelude.{◌≡◌, ◌≢◌, ℕ, zero, suc, ◌+◌, ◌^◌, ◌≤◌, ◌<◌, Bool, true, false, not, if◌then◌else◌, List, [], ◌∷◌, ◌++◌, length, All, AllPairs, Contains}
use Rattle.std.specs.List.{list_any}
use Rattle.std.specs.Cmp.Lexicographic.{pointwise}
use mathlib.Core.Bool.{beq}

-- whether the row is listed
abbrev pub has_row : List (List Bool) → List Bool → Bool
has_row rows row = list_any (pointwise beq row) rows

-- how many rows of so many bits pass the test
unfoldable pub count_rows : ℕ → (List Bool → Bool) → ℕ
count_rows zero test = if test [] then 1 else 0
count_rows (suc n) test = count_rows n (λ row. test (false ∷ row)) + count_rows n (λ row. test (true ∷ row))

-- how many rows of so many bits aren't listed
unfoldable pub missing : ℕ → List (List Bool) → ℕ
missing n rows = count_rows n (λ row. not (has_row rows row))

-- of the empty list all rows are missing
abbrev pub AllAreMissing : Type 0
AllAreMissing = (n : ℕ) → missing n [] ≡ 2 ^ n

-- where a row that isn't listed is added, one less is missing
abbrev pub OneLessIsMissing : Type 0
OneLessIsMissing =
    (n : ℕ) (rows : List (List Bool)) (row : List Bool) → length row ≡ n → (Contains rows row → ⊥) →
    missing n rows ≡ missing n (rows ++ row ∷ []) + 1

-- where it is listed, as many are missing
abbrev pub ListedChangesNothing : Type 0
ListedChangesNothing =
    (n : ℕ) (rows : List (List Bool)) (row : List Bool) → Contains rows row → missing n (rows ++ row ∷ []) ≡ missing n rows

-- a row for each of two lists, of which one isn't listed there, leaves less missing of both together: so pairs of rows
-- that are new run out, with no test of membership
abbrev pub NewPairsRunOut : Type 0
NewPairsRunOut =
    (n : ℕ) (ones zeros : List (List Bool)) (one zero : List Bool) → length one ≡ n → length zero ≡ n →
    (Contains ones one → Contains zeros zero → ⊥) →
    missing n (ones ++ one ∷ []) + missing n (zeros ++ zero ∷ []) < missing n ones + missing n zeros

-- there are at most 2 ^ n distinct rows of n bits
abbrev pub DistinctRowsAreFew : Type 0
DistinctRowsAreFew =
    (n : ℕ) (rows : List (List Bool)) → All (λ row. length row ≡ n) rows → AllPairs (λ a b. a ≢ b) rows →
    length rows ≤ 2 ^ n

-- distinct rows stay so where one is added that isn't listed
abbrev pub RowsStayDistinct : Type 0
RowsStayDistinct =
    (rows : List (List Bool)) (row : List Bool) → AllPairs (λ a b. a ≢ b) rows → (Contains rows row → ⊥) →
    AllPairs (λ a b. a ≢ b) (rows ++ row ∷ [])
