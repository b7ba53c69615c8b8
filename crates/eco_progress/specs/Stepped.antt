-- What the step to one more target leaves as it was, and what it adds.
use Rattle.std.specs.Prelude.{◌≡◌, ◌++◌, ◌∷◌, [], ℕ, List, length}
use Rattle.eco_laws.specs.Parts.{CarriesOver}
use Rattle.eco_query.specs.Problem.{ProblemValue}
use Rattle.eco_pose.specs.Questions.{AtTarget}
use Rattle.eco_base.specs.declared.choosing.Chosen.{Chosen}
use Rattle.eco_progress.specs.declared.progress.Progress.{Progress}
use Rattle.eco_progress.specs.Reported.{reported_group}

-- the target has its group behind the others, and what is said of the first targets before it is the same with both patches
pub record IsSteppedAt (problem : ProblemValue) (progress : Progress) (chosen : Chosen) (more : Progress) (before : List (List ℕ)) (target : List ℕ) (behind : List (List ℕ)) : Type 0 where
  pub groups : more.groups.items ≡ progress.groups.items ++ reported_group problem target chosen.new.items ∷ []
  pub stand : (first rest : List (List ℕ)) → before ≡ first ++ rest →
      CarriesOver problem.implementation progress.patch more.patch first × CarriesOver problem.implementation more.patch progress.patch first

-- so it is of the target that comes next; what the earlier ones cost at least is told as before
pub record IsStepped (problem : ProblemValue) (progress : Progress) (chosen : Chosen) (more : Progress) : Type 0 where
  pub here : AtTarget problem.implementation (length progress.groups.items) (IsSteppedAt problem progress chosen more)
  pub least : more.least ≡ progress.least
