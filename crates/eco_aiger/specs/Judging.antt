-- How the reader judges what is defined.
use Rattle.std.specs.Prelude.{ℕ, Bool, not, ◌&&◌, List, Option, Some, None, filter, fold, nat_le, ◌==◌, if◌then◌else◌}
use Rattle.eco_aiger.specs.declared.error.AigerError.{AigerError}
use Rattle.eco_aiger.specs.declared.error.AigerError.TheVariants.{Line, DefinedTwice, Undefined, Refused, OutOfMemory}
use Rattle.eco_aiger.specs.Syntax.{File}
use Rattle.eco_aiger.specs.Defined.{defined_in, used_in, is_in, is_missing, IsLeast}

-- the lesser of two numbers, where there is a first one
abbrev pub lesser : Option ℕ → ℕ → Option ℕ
lesser None number = Some number
lesser (Some other) number = if nat_le other number then Some other else Some number

-- whether a variable is none of the constant and of these
abbrev pub is_unknown : List ℕ → ℕ → Bool
is_unknown known variable = not (variable == 0) && not (is_in known variable)

-- the least of the list that is none of these
abbrev pub least_unknown : List ℕ → List ℕ → Option ℕ
least_unknown known used = fold lesser None (filter (is_unknown known) used)

-- a file whose variables are defined once is refused for this: one is missing; want of memory tells nothing of it
abbrev pub RefusesUse : File → AigerError → Type 0
RefusesUse f (Line n) = ⊥
RefusesUse f (DefinedTwice v) = ⊥
RefusesUse f (Undefined v) = IsLeast (is_missing (defined_in f) (used_in f)) v
RefusesUse f (Refused refusal) = ⊥
RefusesUse f OutOfMemory = Unit {0}
