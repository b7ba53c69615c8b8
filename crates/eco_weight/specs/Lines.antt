-- What a line of a weight file says.
use Rattle.std.specs.Prelude.{◌≡◌, ◌⊎◌, ℕ, ◌<◌, true, ◌==◌, List, [], ◌∷◌, ◌++◌, length, if◌then◌else◌}
use Rattle.std.specs.List.{list_all}
use Rattle.eco_lists.specs.Lines.{is_blank}
use Rattle.eco_meaning.specs.Names.{is_name}
use Rattle.eco_text.specs.Digits.{IsSpelled}

-- what a word names: the word, but for one backslash at its front
abbrev pub named_by : List ℕ → List ℕ
named_by [] = []
named_by (b ∷ more) = if b == 92 then more else b ∷ more

-- the word, one or more printing bytes, names this, which isn't empty
pub record Names (word name : List ℕ) : Type 0 where
  pub printing : is_name word ≡ true
  pub named : named_by word ≡ name
  pub some : 0 < length name

-- one or more decimal digits spell this weight, which is at most 4294967295; zeros at their front count nothing
abbrev pub IsWeight : List ℕ → ℕ → Type 0
IsWeight = IsSpelled 4294967295

-- the line is these parts in a row: blanks, a name, one or more blanks, a weight, blanks
pub record Says (line name : List ℕ) (weight : ℕ) : Type 0 where
  pub before : List ℕ
  pub word : List ℕ
  pub between : List ℕ
  pub digits : List ℕ
  pub after : List ℕ
  pub row : before ++ (word ++ (between ++ (digits ++ after))) ≡ line
  pub blank_before : list_all is_blank before ≡ true
  pub names : Names word name
  pub parted : 0 < length between
  pub blank_between : list_all is_blank between ≡ true
  pub weighs : IsWeight digits weight
  pub blank_after : list_all is_blank after ≡ true

-- the line is blanks alone
abbrev pub IsBlank : List ℕ → Type 0
IsBlank line = list_all is_blank line ≡ true

-- the line says some pair
abbrev pub SaysSome : List ℕ → Type 0
SaysSome line = (name : List ℕ) × (weight : ℕ) × Says line name weight

-- the line may stand in a weight file
abbrev pub IsSound : List ℕ → Type 0
IsSound line = IsBlank line ⊎ SaysSome line
