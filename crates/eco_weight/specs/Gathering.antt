-- Pairs, gathered by their names.
use Rattle.std.specs.Prelude.{◌≡◌, ◌≢◌, ℕ, List, [], ◌∷◌, ◌++◌, Option, Some, None, if◌then◌else◌}
use Rattle.std.specs.Cmp.Lexicographic.{slice_cmp}
use Rattle.std.specs.List.{IsDistinct}
use Rattle.std.specs.Ordering.{nat_cmp, is_lt}
use Rattle.std.specs.Str.{bytes_eq}
use Rattle.std.specs.declared.cmp.Ordering.TheVariants.{Less}
use Rattle.eco_meaning.specs.Cost.{Weights}
use Rattle.eco_meaning.specs.Names.{has}
use Rattle.eco_weight.specs.declared.error.WeightError.{WeightError}
use Rattle.eco_weight.specs.declared.error.WeightError.TheVariants.{Line, Twice, OutOfMemory}
use Rattle.eco_weight.specs.declared.gathered.Gathered.{Gathered}
use Rattle.eco_weight.specs.Files.{Give, names_in, OccursTwice, IsFirstBadLine}

-- the smaller of two names, in the order of bytes
abbrev pub smaller : Option (List ℕ) → List ℕ → Option (List ℕ)
smaller None name = Some name
smaller (Some least) name = if is_lt (slice_cmp nat_cmp name least) then Some name else Some least

-- the smallest name of which P holds, where one is
abbrev pub IsLeast : (List ℕ → Type 0) → Option (List ℕ) → Type 0
IsLeast P None = (name : List ℕ) → P name → ⊥
IsLeast P (Some least) = P least × ((other : List ℕ) → P other → slice_cmp nat_cmp other least ≢ Less)

-- These entries and this name that came twice are what was gathered of the pairs: each name is among the entries
-- once, the smallest name of two pairs is told, and where there is none the entries are the pairs.
pub record Gathers (told entries : Weights) (twice : Option (List ℕ)) : Type 0 where
  pub names : (name : List ℕ) → has (names_in entries) name ≡ has (names_in told) name
  pub distinct : IsDistinct bytes_eq (names_in entries)
  pub least : IsLeast (OccursTwice told) twice
  pub whole : twice ≡ None → entries ≡ told

-- the weights are the pairs, no two of which have one name
pub record Finishes (told weights : Weights) : Type 0 where
  pub same : weights ≡ told
  pub distinct : IsDistinct bytes_eq (names_in told)

-- the pairs are refused for the smallest name that stands in two
abbrev pub Refuses : Weights → WeightError → Type 0
Refuses told (Line n) = ⊥
Refuses told (Twice name) = IsLeast (OccursTwice told) (Some name)
Refuses told OutOfMemory = Unit {0}

-- what the lines say was gathered
pub record Collects (lines : List (List ℕ)) (gathered : Gathered) : Type 0 where
  pub told : Weights
  pub tell : Give lines told
  pub gathers : Gathers told gathered.lines.entries gathered.twice

-- what one more line says was gathered
abbrev pub CollectsMore : List ℕ → Gathered → Gathered → Type 0
CollectsMore line old new = (lines : List (List ℕ)) → Collects lines old → Collects (lines ++ line ∷ []) new

-- the reading ends for a line at fault, or for want of memory
abbrev pub IsLineError : List (List ℕ) → WeightError → Type 0
IsLineError lines (Line n) = IsFirstBadLine lines n
IsLineError lines (Twice name) = ⊥
IsLineError lines OutOfMemory = Unit {0}
