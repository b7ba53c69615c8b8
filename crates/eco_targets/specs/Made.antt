-- What a synthesis comes to.
use Rattle.std.specs.Prelude.{◌≡◌, ◌⊎◌, ◌<◌, ◌≤◌, ℕ, List, [], ◌++◌, None}
use Rattle.eco_meaning.specs.Circuit.{Circuit}
use Rattle.eco_meaning.specs.Meaning.{Goal, IsWrong, IsRectifiable}
use Rattle.eco_meaning.specs.Choice.{IsKept}
use Rattle.eco_meaning.specs.Patch.{ReadsAllInputs}
use Rattle.eco_meaning.specs.Report.{PatchReport, Meets, IsFrugal, AreLeast}
use Rattle.eco_query.specs.Problem.{IsClosed, ProblemValue}
use Rattle.eco_pose.specs.Stuck.{IsUnfinished, NoneCompared}
use Rattle.eco_targets.specs.declared.Stop.{Stop}
use Rattle.eco_targets.specs.declared.Stop.TheVariants.{Wrong, Unfinished}

-- with the functions of the first targets, however many, the implementation can be rectified
abbrev pub StaysRectifiable : Circuit → Goal → Circuit → Type 0
StaysRectifiable f goal p = (first later : List (List ℕ)) → p.outputs ≡ first ++ later → IsKept f goal p first

-- the patch p, the patched netlist and the report, which tells no bound and of no target what it costs at least, solve the problem,
-- which can be rectified, and they are frugal; neither netlist has a target left
pub record IsMade (problem : ProblemValue) (p spliced : Circuit) (report : PatchReport) : Type 0 where
  pub meets : Meets problem.implementation problem.goal problem.weights problem.input_weight p spliced report
  pub frugal : IsFrugal problem.implementation problem.goal problem.weights problem.input_weight p report
  pub rectifiable : IsRectifiable problem.implementation problem.goal
  pub kept : StaysRectifiable problem.implementation problem.goal p
  pub unbound : report.bound ≡ None
  pub untold : report.least ≡ []
  pub patch_closed : IsClosed p
  pub spliced_closed : IsClosed spliced

-- so they do, where the patch reads all of its inputs, and it is told of each target what it costs at least
pub record IsMadeLeast (problem : ProblemValue) (p spliced : Circuit) (report : PatchReport) : Type 0 where
  pub meets : Meets problem.implementation problem.goal problem.weights problem.input_weight p spliced report
  pub read : ReadsAllInputs p
  pub least : AreLeast problem.implementation problem.goal problem.weights problem.input_weight p report
  pub rectifiable : IsRectifiable problem.implementation problem.goal
  pub kept : StaysRectifiable problem.implementation problem.goal p
  pub unbound : report.bound ≡ None
  pub patch_closed : IsClosed p
  pub spliced_closed : IsClosed spliced

-- the one patch costs less than the other, or as much with no more gates
abbrev pub IsNoDearer : PatchReport → PatchReport → Type 0
IsNoDearer one other = (one.cost < other.cost) ⊎ ((one.cost ≡ other.cost) × (one.gates ≤ other.gates))

-- no patch was made: at this input no values of the targets help, or a question of the problem was given up, or memory could
-- not be had
abbrev pub IsCause : ProblemValue → ℕ → Stop → Type 0
IsCause problem limit (Wrong input) = IsWrong problem.implementation problem.goal input
IsCause problem limit (Unfinished unfinished) = IsUnfinished problem NoneCompared limit unfinished
