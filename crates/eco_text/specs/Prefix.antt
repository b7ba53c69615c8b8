-- Names that are made: a prefix with which none of the given names begins, and a number.
use Rattle.std.specs.Prelude.{◌≡◌, ℕ, ◌+◌, ◌<◌, ◌≤◌, List, ◌++◌, IsTrue, Any, nat_eq, decimal, fold, length, replicate, drop, ◌==◌, if◌then◌else◌}
use Rattle.std.specs.List.{starts_with, prefix_len}
use Rattle.std.specs.Ordering.{nat_cmp, ord_max}

-- the stem and this many underscores
abbrev pub prefix_of : List ℕ → ℕ → List ℕ
prefix_of stem underscores = stem ++ replicate underscores 95

-- some name of the list begins with these bytes
abbrev pub IsBegun : List (List ℕ) → List ℕ → Type 0
IsBegun names front = Any (λ name. IsTrue (starts_with nat_eq name front)) names

-- the shortest of the stem with one underscore, with two, with three and so on with which no name begins
pub record IsFreshPrefix (stem : List ℕ) (names : List (List ℕ)) (prefix : List ℕ) : Type 0 where
  pub underscores : ℕ
  pub form : prefix ≡ prefix_of stem underscores
  pub least : 1 ≤ underscores
  pub fresh : IsBegun names prefix → ⊥
  pub shortest : (fewer : ℕ) → 1 ≤ fewer → fewer < underscores → IsBegun names (prefix_of stem fewer)

-- how many underscores follow the stem at the start of a name; 0 where it doesn't begin with the stem
abbrev pub underscores_of : List ℕ → List ℕ → ℕ
underscores_of stem name =
    if starts_with nat_eq name stem then prefix_len (λ byte. byte == 95) (drop (length stem) name) else 0

-- the greatest of these numbers, or 0
abbrev pub most_underscores : List ℕ → List (List ℕ) → ℕ
most_underscores stem names = fold (λ most name. ord_max nat_cmp most (underscores_of stem name)) 0 names

-- that prefix as a value: one underscore more than follow the stem at the start of any name
abbrev pub fresh_prefix_of : List ℕ → List (List ℕ) → List ℕ
fresh_prefix_of stem names = prefix_of stem (most_underscores stem names + 1)

-- the name of this number
abbrev pub numbered : List ℕ → ℕ → List ℕ
numbered prefix number = prefix ++ decimal number
