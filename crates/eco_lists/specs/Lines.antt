-- The lines of a text.
use Rattle.std.specs.Prelude.{◌≡◌, ℕ, ◌+◌, ◌==◌, List, ◌∷◌, ◌++◌, length, map, Bool, ◌||◌}
use Rattle.std.specs.List.{slice_split, AllByRecursion, take_while}
use Rattle.std.specs.Str.Lines.{strip_carriage_return}

-- what stands between line feeds
abbrev pub cut_at_feeds : List ℕ → List (List ℕ)
cut_at_feeds bytes = slice_split (λ b. b == 10) bytes

-- the same, each piece without one carriage return at its end
abbrev pub lines_of : List ℕ → List (List ℕ)
lines_of bytes = map strip_carriage_return (cut_at_feeds bytes)

-- the line of this number, counted from 1, hasn't the property, and all before it have it
pub record IsFirstWithout (P : List ℕ → Type 0) (lines : List (List ℕ)) (n : ℕ) : Type 0 where
  pub before : List (List ℕ)
  pub line : List ℕ
  pub after : List (List ℕ)
  pub cut : lines ≡ before ++ line ∷ after
  pub number : n ≡ length before + 1
  pub sound : AllByRecursion P before
  pub fault : P line → ⊥

-- a blank or a tab
abbrev pub is_blank : ℕ → Bool
is_blank b = b == 32 || b == 9

-- how many bytes from the front on pass
abbrev pub run_of : (ℕ → Bool) → List ℕ → ℕ
run_of test bytes = length (take_while test bytes)
