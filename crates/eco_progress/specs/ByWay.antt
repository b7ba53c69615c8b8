-- What each way to choose bases promises, at the target that comes next and of those that have their functions.
use Rattle.std.specs.Prelude.{◌≡◌, [], Option, length, true, false}
use Rattle.eco_meaning.specs.Circuit.{names}
use Rattle.eco_netlist.specs.Netlists.{names_at}
use Rattle.eco_query.specs.Problem.{ProblemValue}
use Rattle.eco_find.specs.declared.ways.Found.{Found}
use Rattle.eco_find.specs.declared.ways.Way.{Way}
use Rattle.eco_find.specs.Found.{IsBaseBy, IsFoundBy}
use Rattle.eco_find.specs.Ways.{is_greedy, tells_least}
use Rattle.eco_progress.specs.declared.progress.Progress.{Progress}
use Rattle.eco_progress.specs.Progress.{IsGreedyProgress, IsLeastProgress}

-- it is a base of the target that comes next, beside the signals that are paid, and keeps what the way promises
abbrev pub IsBaseFor : Way → ProblemValue → Progress → Found → Type 0
IsBaseFor way problem progress found =
    IsBaseBy way problem (length progress.groups.items) progress.patch (names_at (names problem.implementation) progress.functions.base) found

-- such a base is found, or there is none, if the way may end so
abbrev pub IsFoundFor : Way → ProblemValue → Progress → Option Found → Type 0
IsFoundFor way problem progress found =
    IsFoundBy way problem (length progress.groups.items) progress.patch (names_at (names problem.implementation) progress.functions.base) found

-- so far each target's signals keep what the way promises, and it is told of each what they cost at least, or of none
pub record IsProgressBy (way : Way) (problem : ProblemValue) (progress : Progress) : Type 0 where
  pub greedy : is_greedy way ≡ true → IsGreedyProgress problem progress
  pub told : tells_least way ≡ true → IsLeastProgress problem progress
  pub untold : tells_least way ≡ false → progress.least.items ≡ []
