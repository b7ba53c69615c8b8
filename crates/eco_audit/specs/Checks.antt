-- What is checked of reported signals, one after the other.
use Rattle.std.specs.Prelude.{◌≡◌, ◌↔◌, ℕ, Bool, true, List, ◌∷◌, ◌++◌, Some, IsSome, Contains, length, slice_get, take}
use Rattle.eco_meaning.specs.Circuit.{Circuit, names, AreTargets, Fan, IsSignal}
use Rattle.eco_meaning.specs.Cost.{weight_of}
use Rattle.eco_meaning.specs.Patch.{IsBehindOnly}
use Rattle.eco_meaning.specs.Report.{BaseSignal, TargetGroup, PatchReport, targets_of}
use Rattle.eco_gates.specs.declared.gate.NetId.{NetId}
use Rattle.eco_query.specs.Problem.{ProblemValue, HasTargetNumber}
use Rattle.eco_audit.specs.declared.checking.Check.{Check}
use Rattle.eco_audit.specs.declared.checking.Check.TheVariants.{Candidate, Weight, Reach}
use Rattle.eco_audit.specs.Reported.{Saying, IsSaidOfAll, IsReportedCandidate, IsReportedWeight, IsReadInTime}
use Rattle.eco_audit.specs.Findings.{HasReportedPorts}

-- this holds of the group of the number, counted from 0, and of the groups before it
abbrev pub AtGroup : PatchReport → ℕ → (List TargetGroup → TargetGroup → Type 0) → Type 0
AtGroup r number P = (group : TargetGroup) → slice_get r.groups number ≡ Some group → P (take number r.groups) group

-- what each check says
abbrev pub says : Check → ProblemValue → Circuit → Saying
says Candidate problem p = IsReportedCandidate problem
says Weight problem p = IsReportedWeight problem
says Reach problem p = IsReadInTime problem.implementation p

-- what is right before the check is made
abbrev pub CanBeChecked : ProblemValue → Circuit → PatchReport → Check → Type 0
CanBeChecked problem p r Candidate = AreTargets problem.implementation (targets_of r)
CanBeChecked problem p r Weight = IsSaidOfAll (IsReportedCandidate problem) r.groups
CanBeChecked problem p r Reach =
    AreTargets problem.implementation (targets_of r) × HasReportedPorts p r × IsSaidOfAll (IsReportedCandidate problem) r.groups

-- but for the targets behind which it lies the signal is a candidate
pub record IsOfSomeTarget (problem : ProblemValue) (name : List ℕ) : Type 0 where
  pub signal : IsSignal problem.implementation name
  pub weighted : IsSome (weight_of problem.implementation problem.weights problem.input_weight name)

-- what is right before the check is made of a signal that the group of the number tells
abbrev pub IsCheckable : ProblemValue → Circuit → Check → ℕ → BaseSignal → Type 0
IsCheckable problem p Candidate number b = HasTargetNumber problem.implementation number
IsCheckable problem p Weight number b = IsSignal problem.implementation b.signal
IsCheckable problem p Reach number b =
    AreTargets problem.implementation p.outputs × Contains p.inputs b.signal × IsOfSomeTarget problem b.signal

-- the net is the implementation's of this name, and but for the targets behind which it lies it is a candidate
pub record IsSourceOf (problem : ProblemValue) (source : NetId) (name : List ℕ) : Type 0 where
  pub named : slice_get (names problem.implementation) source.0 ≡ Some name
  pub candidate : IsOfSomeTarget problem name

-- a mark for each net of the patch: whether it depends on the net of this name
pub record AreReachedMarks (p : Circuit) (name : List ℕ) (marks : List Bool) : Type 0 where
  pub len : length marks ≡ length (names p)
  pub marked : (net : ℕ) (other : List ℕ) → slice_get (names p) net ≡ Some other →
      (slice_get marks net ≡ Some true) ↔ Fan p name other

-- this holds of the output at the place and of those before it
abbrev pub AtOutput : Circuit → ℕ → (List (List ℕ) → List ℕ → Type 0) → Type 0
AtOutput p place P = (target : List ℕ) → slice_get p.outputs place ≡ Some target → P (take place p.outputs) target

-- each target whose function depends on the net of this name may read it
abbrev pub IsReadInTimeBy : Circuit → Circuit → List ℕ → Type 0
IsReadInTimeBy f p name =
    (first : List (List ℕ)) (target : List ℕ) (later : List (List ℕ)) → p.outputs ≡ first ++ target ∷ later →
    Fan p name target → IsBehindOnly f first name
