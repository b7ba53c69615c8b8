-- What is made where bases are chosen in some way.
use Rattle.std.specs.Prelude.{◌≡◌, true, false}
use Rattle.eco_meaning.specs.Circuit.{Circuit}
use Rattle.eco_meaning.specs.Report.{PatchReport}
use Rattle.eco_query.specs.Problem.{ProblemValue}
use Rattle.eco_find.specs.declared.ways.Way.{Way}
use Rattle.eco_find.specs.Ways.{is_greedy, tells_least}
use Rattle.eco_targets.specs.Made.{IsMade, IsMadeLeast}

-- what is made solves the problem: frugally if the way is greedy and tells no cost, and with what each target costs at least if it tells that
pub record IsMadeBy (way : Way) (problem : ProblemValue) (p spliced : Circuit) (report : PatchReport) : Type 0 where
  pub frugal : is_greedy way ≡ true → tells_least way ≡ false → IsMade problem p spliced report
  pub told : tells_least way ≡ true → IsMadeLeast problem p spliced report
