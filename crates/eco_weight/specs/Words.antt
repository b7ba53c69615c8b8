-- The words of a line, as the reader cuts them.
use Rattle.std.specs.Prelude.{◌≡◌, ℕ, true, not, List, [], ◌∷◌, ◌++◌}
use Rattle.std.specs.List.{list_all}
use Rattle.eco_lists.specs.Lines.{is_blank}

-- nothing, or a blank first
abbrev pub BeginsBlank : List ℕ → Type 0
BeginsBlank [] = Unit {0}
BeginsBlank (b ∷ more) = is_blank b ≡ true

-- the bytes are blanks, then a word without a blank, then nothing or a blank and more
pub record IsNextWord (bytes word rest : List ℕ) : Type 0 where
  pub blanks : List ℕ
  pub row : blanks ++ (word ++ rest) ≡ bytes
  pub blank : list_all is_blank blanks ≡ true
  pub solid : list_all (λ b. not (is_blank b)) word ≡ true
  pub ends : BeginsBlank rest
  pub none : word ≡ [] → rest ≡ []
