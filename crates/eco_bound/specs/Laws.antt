-- What is meant by: no base costs less than a bound.
use Rattle.std.specs.Prelude.{ℕ, List, []}
use Rattle.eco_meaning.specs.Circuit.{Circuit}
use Rattle.eco_meaning.specs.Meaning.{Goal}
use Rattle.eco_meaning.specs.Cost.{Weights}
use Rattle.eco_meaning.specs.Bound.{Bound, IsBoundOf, CostAtLeast}
use Rattle.eco_laws.specs.Kept.{TakesAnyInputs}
use Rattle.eco_laws.specs.Parts.{LeavesTheSame}

-- candidates that suffice for the target never weigh less than the total
abbrev pub BoundIsLeast : Type 0
BoundIsLeast =
    (f : Circuit) (goal : Goal) (w : Weights) (input_weight : ℕ) (p : Circuit) (target : List ℕ) (bound : Bound) →
    IsBoundOf f goal w input_weight p target bound → CostAtLeast f goal w input_weight p [] target [] bound.total

-- before any target has a function, netlists that take any inputs leave the same maps
abbrev pub AnyPatchWillDo : Type 0
AnyPatchWillDo = (f p q : Circuit) → TakesAnyInputs p → TakesAnyInputs q → LeavesTheSame f p q []
