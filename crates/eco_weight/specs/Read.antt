-- What the reader finds in one line.
use Rattle.std.specs.Prelude.{ℕ, Bool, true, false, List, Option, Some, None}
use Rattle.eco_weight.specs.declared.line.Line.{Line}
use Rattle.eco_weight.specs.declared.line.Line.TheVariants.{Blank, Pair, Fault}
use Rattle.eco_weight.specs.Lines.{Says, IsBlank, IsSound}

-- the pair, where both of it are there and the line ends behind them
abbrev pub pair_of : Option (List ℕ) → Option ℕ → Bool → Line
pair_of None weight ends = Fault
pair_of (Some name) None ends = Fault
pair_of (Some name) (Some weight) false = Fault
pair_of (Some name) (Some weight) true = Pair name weight

-- the line is what was found
abbrev pub ReadsAs : List ℕ → Line → Type 0
ReadsAs line Blank = IsBlank line
ReadsAs line (Pair name weight) = Says line name weight
ReadsAs line Fault = IsSound line → ⊥
