-- What needs of reported signals are judged by.
use Rattle.std.specs.Prelude.{◌≡◌, ◌≢◌, ℕ, Bool, List, [], ◌∷◌, ◌++◌, Option, map}
use Rattle.eco_meaning.specs.Circuit.{Circuit, Values, names}
use Rattle.eco_meaning.specs.Patch.{Fits}
use Rattle.eco_meaning.specs.Choice.{IsReached, IsForced, IsNeeded, IsOther}
use Rattle.eco_meaning.specs.Report.{TargetGroup, signals_in, targets_in, targets_of}
use Rattle.eco_netlist.specs.Netlists.{bit_of}
use Rattle.eco_pose.specs.declared.unfinished.Unfinished.{Unfinished}
use Rattle.eco_report.specs.declared.file.ReportFile.TheVariants.{Patched}
use Rattle.eco_laws.specs.Asked.{IsUnfixed}
use Rattle.eco_laws.specs.Sound.{IsSound}
use Rattle.eco_audit.specs.Checks.{AtGroup}
use Rattle.eco_audit.specs.Rows.{HoldBefore, IsFoundBefore, rows_of_splice}
use Rattle.eco_audit.specs.Reported.{Saying, IsReportedNeeded}
use Rattle.eco_audit.specs.Files.{IsLeftOpen, IsRuling}
use Rattle.eco_audit.specs.declared.ruling.Ruling.{Ruling}
use Rattle.eco_audit.specs.declared.finding.Finding.{Finding}
use Rattle.eco_audit.specs.declared.solution.Solution.{Solution}

-- what is ruled of the solution, and what a run that ends without a ruling leaves open
abbrev pub IsRulingHere : Solution → Ruling → Type 0
IsRulingHere s ruling = IsRuling s.problem.now s.patch.now s.out.now (Patched s.report.now) ruling

abbrev pub IsLeftOpenHere : ℕ → Solution → Unfinished → Type 0
IsLeftOpenHere limit s unfinished = IsLeftOpen s.problem.now s.patch.now s.out.now (Patched s.report.now) limit unfinished

-- what is right of the solution's first rows
abbrev pub HoldsUpTo : ℕ → Solution → Type 0
HoldsUpTo rows s = HoldBefore s.problem.now s.patch.now s.out.now s.report.now rows

-- none of the solution's first rows has a finding that stands, or this is the first one
abbrev pub IsFoundUpTo : ℕ → Solution → Option Finding → Type 0
IsFoundUpTo rows s found = IsFoundBefore s.problem.now s.patch.now s.out.now s.report.now rows found

-- the patch fits, and all is right that comes before the needs of signals
pub record IsJudged (s : Solution) : Type 0 where
  pub implementation : IsSound s.problem.now.implementation
  pub patch : IsSound s.patch.now
  pub spliced : IsSound s.out.now
  pub fits : Fits s.problem.now.implementation s.patch.now []
  pub before : HoldsUpTo rows_of_splice s

-- this holds of the group of the number and of the groups before it
abbrev pub AtGroupOf : Solution → ℕ → (List TargetGroup → TargetGroup → Type 0) → Type 0
AtGroupOf s number P = AtGroup s.report.now number P

-- the inputs x and y show that the signal of this name is needed beside the others that are reported up to the group's target
abbrev pub ShowNeed : Solution → List ℕ → List Bool → List Bool → List TargetGroup → TargetGroup → Type 0
ShowNeed s name x y before group =
    IsNeeded s.problem.now.implementation s.problem.now.goal s.patch.now (targets_in before) group.target
    (signals_in (before ++ group ∷ [])) name x y

-- what is said of needed signals
abbrev pub needs : Solution → Saying
needs s = IsReportedNeeded s.problem.now s.patch.now

-- one bit for each net of the netlist
abbrev pub AreBitsOf : Circuit → List Bool → Type 0
AreBitsOf n bits = map (bit_of (names n) bits) (names n) ≡ bits

-- the map that these bits of the patched netlist's nets stand for
abbrev pub map_of : Solution → List Bool → Values
map_of s bits = bit_of (names s.out.now) bits

-- one bit for each net of the patched netlist, those of a map that is reached at the input
pub record AreFilled (s : Solution) (x bits : List Bool) : Type 0 where
  pub valued : AreBitsOf s.out.now bits
  pub reached : IsReached s.problem.now.implementation s.patch.now s.patch.now.outputs x (map_of s bits)

-- no values of the targets go on from the fixed ones and are right at the input
abbrev pub IsUnfixedHere : Solution → List Bool → List Bool → Type 0
IsUnfixedHere s fixed x = IsUnfixed s.problem.now.implementation s.problem.now.goal (targets_of s.report.now) fixed x

-- the input forces the target of the group to the bit
abbrev pub IsForcedHere : Solution → List Bool → Bool → List TargetGroup → TargetGroup → Type 0
IsForcedHere s x bit before group =
    IsForced s.problem.now.implementation s.problem.now.goal s.patch.now (targets_in before) group.target x bit

-- two maps agree on the members of the list but one
abbrev pub AgreeOnOthers : List (List ℕ) → List ℕ → Values → Values → Type 0
AgreeOnOthers list name v u = (other : List ℕ) → IsOther list name other → v other ≡ u other

-- two maps agree on the name, unless it is the other one
abbrev pub AgreeUnless : List ℕ → Values → Values → List ℕ → Type 0
AgreeUnless name v u other = other ≢ name → v other ≡ u other
