-- What may be found of a report, a patch and a patched netlist, in its order.
use Rattle.std.specs.Prelude.{◌≡◌, ◌≢◌, ℕ, ◌<◌, ◌++◌, length, IfSome}
use Rattle.eco_meaning.specs.Circuit.{Circuit, AreTargets}
use Rattle.eco_meaning.specs.Meaning.{IsWrong}
use Rattle.eco_meaning.specs.Patch.{splice_of}
use Rattle.eco_meaning.specs.Bound.{IsBound}
use Rattle.eco_meaning.specs.Report.{PatchReport, base_of, cost_of, signals_of, targets_of}
use Rattle.eco_netlist.specs.Misfits.{IsSmallest, IsTakenWire}
use Rattle.eco_query.specs.Problem.{ProblemValue}
use Rattle.eco_audit.specs.declared.finding.Finding.{Finding}
use Rattle.eco_audit.specs.declared.finding.Finding.TheVariants as finding
use Rattle.eco_audit.specs.Reported.{IsFirstWrong, IsReportedCandidate, IsReportedWeight, IsReadInTime, IsReportedNeeded}

-- the patch's ports are the reported targets as outputs and then the reported signals as inputs, in order
pub record HasReportedPorts (p : Circuit) (r : PatchReport) : Type 0 where
  pub outputs : p.outputs ≡ targets_of r
  pub inputs : p.inputs ≡ signals_of r
  pub ports : p.ports ≡ targets_of r ++ signals_of r

-- The finding stands against what is reported of a patch: the reported targets aren't the implementation's, in order; the patch
-- has other ports; the first reported signal that is no candidate of its target, or whose weight is another; the cost isn't the
-- sum of the weights; the patch has another number of gates; the smallest wire of the patch whose name the implementation has;
-- the first reported signal on which the function of a target depends that may not read it; the patched netlist isn't the splice;
-- the first reported signal that its two inputs don't show to be needed; what the report says that a base costs at least, where it
-- says so, is no such bound; a cared input on which the outputs are others.
abbrev pub HasFinding : ProblemValue → Circuit → Circuit → PatchReport → Finding → Type 0
HasFinding problem p out r finding.NotPatched = ⊥
HasFinding problem p out r finding.Targets = AreTargets problem.implementation (targets_of r) → ⊥
HasFinding problem p out r finding.Ports = HasReportedPorts p r → ⊥
HasFinding problem p out r (finding.Candidate name) = IsFirstWrong (IsReportedCandidate problem) r.groups name
HasFinding problem p out r (finding.Weight name) = IsFirstWrong (IsReportedWeight problem) r.groups name
HasFinding problem p out r finding.Cost = r.cost ≢ cost_of (base_of r)
HasFinding problem p out r finding.Gates = r.gates ≢ length p.gates
HasFinding problem p out r (finding.Inner name) = IsSmallest (IsTakenWire problem.implementation p) name
HasFinding problem p out r (finding.Reach name) = IsFirstWrong (IsReadInTime problem.implementation p) r.groups name
HasFinding problem p out r finding.Splice = out ≢ splice_of problem.implementation p
HasFinding problem p out r (finding.Need name) = IsFirstWrong (IsReportedNeeded problem p) r.groups name
HasFinding problem p out r finding.Bound =
    IfSome r.bound (IsBound problem.implementation problem.goal problem.weights problem.input_weight p) → ⊥
HasFinding problem p out r (finding.Differs input) = IsWrong out problem.goal input

-- the place of a finding in the order
abbrev pub row_of : Finding → ℕ
row_of finding.NotPatched = 0
row_of finding.Targets = 1
row_of finding.Ports = 2
row_of (finding.Candidate name) = 3
row_of (finding.Weight name) = 4
row_of finding.Cost = 5
row_of finding.Gates = 6
row_of (finding.Inner name) = 7
row_of (finding.Reach name) = 8
row_of finding.Splice = 9
row_of (finding.Need name) = 10
row_of finding.Bound = 11
row_of (finding.Differs input) = 12

-- no finding of the first rows stands
abbrev pub NoFindingBefore : ProblemValue → Circuit → Circuit → PatchReport → ℕ → Type 0
NoFindingBefore problem p out r rows = (other : Finding) → row_of other < rows → HasFinding problem p out r other → ⊥

-- the finding stands, and no earlier one does
pub record IsFirstOfFindings (problem : ProblemValue) (p out : Circuit) (r : PatchReport) (finding : Finding) : Type 0 where
  pub stands : HasFinding problem p out r finding
  pub first : NoFindingBefore problem p out r (row_of finding)
