-- What is made of functions for all targets, however their signals were chosen.
use Rattle.std.specs.Prelude.{◌≡◌, None}
use Rattle.eco_meaning.specs.Circuit.{Circuit}
use Rattle.eco_meaning.specs.Meaning.{IsRectifiable}
use Rattle.eco_meaning.specs.Patch.{ReadsAllInputs}
use Rattle.eco_meaning.specs.Report.{PatchReport, Meets}
use Rattle.eco_query.specs.Problem.{IsClosed, ProblemValue}
use Rattle.eco_progress.specs.declared.progress.Progress.{Progress}
use Rattle.eco_targets.specs.Made.{StaysRectifiable}

-- the patch of these functions, the patched netlist and the report solve the problem, which can be rectified; the patch reads all of
-- its inputs, neither netlist has a target left, and the report tells of the targets what was told of them
pub record IsFinished (problem : ProblemValue) (progress : Progress) (p spliced : Circuit) (report : PatchReport) : Type 0 where
  pub meets : Meets problem.implementation problem.goal problem.weights problem.input_weight p spliced report
  pub read : ReadsAllInputs p
  pub rectifiable : IsRectifiable problem.implementation problem.goal
  pub kept : StaysRectifiable problem.implementation problem.goal p
  pub unbound : report.bound ≡ None
  pub patch_closed : IsClosed p
  pub spliced_closed : IsClosed spliced
  pub patch : p ≡ progress.patch
  pub groups : report.groups ≡ progress.groups.items
  pub least : report.least ≡ progress.least.items
