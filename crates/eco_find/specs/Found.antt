-- What is found in each way.
use Rattle.std.specs.Prelude.{◌≡◌, ℕ, Option, Some, None, List, true, false}
use Rattle.eco_meaning.specs.Circuit.{Circuit}
use Rattle.eco_query.specs.Problem.{ProblemValue}
use Rattle.eco_base.specs.Chosen.{IsBaseOf, IsChosen}
use Rattle.eco_least.specs.Least.{IsLeastCost}
use Rattle.eco_find.specs.declared.ways.Found.{Found}
use Rattle.eco_find.specs.declared.ways.Way.{Way}
use Rattle.eco_find.specs.Ways.{is_greedy, may_end, tells_least}

-- a number is told, and any base of the target costs so much at least, beside the signals that are paid
abbrev pub IsTold : ProblemValue → ℕ → Circuit → List (List ℕ) → Option ℕ → Type 0
IsTold problem i patches paid told = (least : ℕ) × (told ≡ Some least) × IsLeastCost problem i patches paid least

-- it is a base of the target of this number, beside the signals that are paid, and keeps what the way promises
pub record IsBaseBy (way : Way) (problem : ProblemValue) (i : ℕ) (patches : Circuit) (paid : List (List ℕ)) (found : Found) : Type 0 where
  pub base : IsBaseOf problem i patches paid found.chosen
  pub greedy : is_greedy way ≡ true → IsChosen problem i patches paid found.chosen
  pub told : tells_least way ≡ true → IsTold problem i patches paid found.least
  pub untold : tells_least way ≡ false → found.least ≡ None

-- such a base is found, or there is none, if the way may end so
abbrev pub IsFoundBy : Way → ProblemValue → ℕ → Circuit → List (List ℕ) → Option Found → Type 0
IsFoundBy way problem i patches paid None = may_end way ≡ true
IsFoundBy way problem i patches paid (Some found) = IsBaseBy way problem i patches paid found
