-- What any base of a target costs at least.
use Rattle.std.specs.Prelude.{ℕ, List}
use Rattle.eco_meaning.specs.Circuit.{Circuit}
use Rattle.eco_meaning.specs.Bound.{CostAtLeast}
use Rattle.eco_query.specs.Problem.{ProblemValue}
use Rattle.eco_pose.specs.Questions.{AtTarget}

-- no candidates of the target of this number that suffice for it, beside the paid signals, cost less than this
abbrev pub IsLeastCost : ProblemValue → ℕ → Circuit → List (List ℕ) → ℕ → Type 0
IsLeastCost problem i patches paid least =
    AtTarget problem.implementation i (λ before target behind.
    CostAtLeast problem.implementation problem.goal problem.weights problem.input_weight patches before target paid least)
