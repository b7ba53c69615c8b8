-- What stands when the first targets have their functions.
use Rattle.std.specs.Prelude.{◌≡◌, ◌+◌, ◌++◌, ◌∷◌, [], ℕ, List, Some, None, All, length, slice_get}
use Rattle.eco_meaning.specs.Circuit.{Circuit, names}
use Rattle.eco_meaning.specs.Cost.{weight_of}
use Rattle.eco_meaning.specs.Choice.{IsKept}
use Rattle.eco_meaning.specs.Report.{TargetGroup, Least, PatchReport, targets_in, base_in, signals_in, AreCandidates, AreNeeded, AreGreedy, AreLeast}
use Rattle.eco_netlist.specs.Netlists.{AreNets, names_at}
use Rattle.eco_query.specs.Problem.{ProblemValue}
use Rattle.eco_pose.specs.Questions.{AreDistinct}
use Rattle.eco_functions.specs.Standing.{IsPatchWith}
use Rattle.eco_progress.specs.declared.progress.Progress.{Progress}

-- a report of these groups, whatever its numbers, that tells no bound, and of each target perhaps what it costs at least
abbrev pub report_with : List TargetGroup → List Least → PatchReport
report_with groups least = record { cost = 0; gates = 0; groups = groups; bound = None; least = least }

abbrev pub report_over : List TargetGroup → PatchReport
report_over groups = report_with groups []

-- each target may read the signals of all groups up to its own
abbrev pub HaveCounts : List TargetGroup → List ℕ → Type 0
HaveCounts groups counts =
    (before : List TargetGroup) (group : TargetGroup) (behind : List TargetGroup) → groups ≡ before ++ group ∷ behind →
    slice_get counts (length before) ≡ Some (length (signals_in (before ++ group ∷ [])))

-- the groups are those of the targets that the patch p drives, and tell of each what a report has to
pub record AreGroupsOf (problem : ProblemValue) (p : Circuit) (groups : List TargetGroup) : Type 0 where
  pub targets : targets_in groups ≡ p.outputs
  pub signals : signals_in groups ≡ p.inputs
  pub candidates : AreCandidates problem.implementation problem.weights problem.input_weight (report_over groups)
  pub weights : All (λ b. weight_of problem.implementation problem.weights problem.input_weight b.signal ≡ Some b.weight) (base_in groups)
  pub needed : AreNeeded problem.implementation problem.goal p (report_over groups)

-- the functions stand in the patch, which keeps the implementation rectifiable
pub record IsProgress (problem : ProblemValue) (progress : Progress) : Type 0 where
  pub nets : AreNets (names problem.implementation) progress.functions.base
  pub distinct : AreDistinct (names_at (names problem.implementation) progress.functions.base)
  pub patch : IsPatchWith problem.implementation progress.functions progress.patch
  pub kept : IsKept problem.implementation problem.goal progress.patch progress.patch.outputs
  pub groups : AreGroupsOf problem progress.patch progress.groups.items
  pub counts : HaveCounts progress.groups.items progress.functions.counts

-- one more target has its function
abbrev pub IsAdvanced : ProblemValue → ℕ → Progress → Type 0
IsAdvanced problem count progress = IsProgress problem progress × (length progress.groups.items ≡ count + 1)

-- each target's signals are the greedy choice
abbrev pub IsGreedyProgress : ProblemValue → Progress → Type 0
IsGreedyProgress problem progress =
    AreGreedy problem.implementation problem.goal problem.weights problem.input_weight progress.patch (report_over progress.groups.items)

-- it is told of each target what its signals cost at least
abbrev pub IsLeastProgress : ProblemValue → Progress → Type 0
IsLeastProgress problem progress =
    AreLeast problem.implementation problem.goal problem.weights problem.input_weight progress.patch (report_with progress.groups.items progress.least.items)
