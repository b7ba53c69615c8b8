-- When each target has its function.
use Rattle.std.specs.Prelude.{length}
use Rattle.eco_query.specs.Problem.{ProblemValue, HasTargets}
use Rattle.eco_progress.specs.declared.progress.Progress.{Progress}
use Rattle.eco_progress.specs.Progress.{IsProgress}

-- the functions stand in the patch, and each target has one
pub record IsComplete (problem : ProblemValue) (progress : Progress) : Type 0 where
  pub stands : IsProgress problem progress
  pub all : HasTargets problem.implementation (length progress.groups.items)
