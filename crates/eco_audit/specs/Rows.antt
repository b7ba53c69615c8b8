-- What is right where no finding of a row stands.
use Rattle.std.specs.Prelude.{◌≡◌, ℕ, zero, suc, ◌<◌, List, length, Option, Some, None, IfSome, Contains}
use Rattle.eco_meaning.specs.Circuit.{Circuit, names, AreTargets}
use Rattle.eco_meaning.specs.Meaning.{IsEquivalent}
use Rattle.eco_meaning.specs.Patch.{splice_of}
use Rattle.eco_meaning.specs.Bound.{IsBound}
use Rattle.eco_meaning.specs.Report.{PatchReport, base_of, cost_of, targets_of}
use Rattle.eco_query.specs.Problem.{ProblemValue}
use Rattle.eco_audit.specs.Reported.{IsSaidOfAll, IsReportedCandidate, IsReportedWeight, IsReadInTime, IsReportedNeeded}
use Rattle.eco_audit.specs.declared.finding.Finding.{Finding}
use Rattle.eco_audit.specs.Findings.{HasReportedPorts, IsFirstOfFindings}

-- no wire of the patch has the name of a net of f
abbrev pub IsFresh : Circuit → Circuit → Type 0
IsFresh f p = (wire : List ℕ) → Contains p.wires wire → Contains (names f) wire → ⊥

-- what is right of the row
abbrev pub Holds : ProblemValue → Circuit → Circuit → PatchReport → ℕ → Type 0
Holds problem p out r zero = Unit {0}
Holds problem p out r (suc zero) = AreTargets problem.implementation (targets_of r)
Holds problem p out r (suc (suc zero)) = HasReportedPorts p r
Holds problem p out r (suc (suc (suc zero))) = IsSaidOfAll (IsReportedCandidate problem) r.groups
Holds problem p out r (suc (suc (suc (suc zero)))) = IsSaidOfAll (IsReportedWeight problem) r.groups
Holds problem p out r (suc (suc (suc (suc (suc zero))))) = r.cost ≡ cost_of (base_of r)
Holds problem p out r (suc (suc (suc (suc (suc (suc zero)))))) = r.gates ≡ length p.gates
Holds problem p out r (suc (suc (suc (suc (suc (suc (suc zero))))))) = IsFresh problem.implementation p
Holds problem p out r (suc (suc (suc (suc (suc (suc (suc (suc zero)))))))) =
    IsSaidOfAll (IsReadInTime problem.implementation p) r.groups
Holds problem p out r (suc (suc (suc (suc (suc (suc (suc (suc (suc zero))))))))) = out ≡ splice_of problem.implementation p
Holds problem p out r (suc (suc (suc (suc (suc (suc (suc (suc (suc (suc zero)))))))))) =
    IsSaidOfAll (IsReportedNeeded problem p) r.groups
Holds problem p out r (suc (suc (suc (suc (suc (suc (suc (suc (suc (suc (suc zero))))))))))) =
    IfSome r.bound (IsBound problem.implementation problem.goal problem.weights problem.input_weight p)
Holds problem p out r (suc (suc (suc (suc (suc (suc (suc (suc (suc (suc (suc (suc later)))))))))))) = IsEquivalent out problem.goal

-- how many rows are looked at when it is known what the report tells of the patch, that the patch fits, that the patched netlist is the
-- splice, that each reported signal is needed, and that the bound is one
abbrev pub rows_of_report : ℕ
rows_of_report = 7

abbrev pub rows_of_fit : ℕ
rows_of_fit = 9

abbrev pub rows_of_splice : ℕ
rows_of_splice = 10

abbrev pub rows_of_needs : ℕ
rows_of_needs = 11

abbrev pub rows_of_bound : ℕ
rows_of_bound = 12

-- what is right of all rows before this one
abbrev pub HoldBefore : ProblemValue → Circuit → Circuit → PatchReport → ℕ → Type 0
HoldBefore problem p out r rows = (row : ℕ) → row < rows → Holds problem p out r row

-- none of the first rows has a finding that stands, and what is right of them is; or this is the first one
abbrev pub IsFoundBefore : ProblemValue → Circuit → Circuit → PatchReport → ℕ → Option Finding → Type 0
IsFoundBefore problem p out r rows None = HoldBefore problem p out r rows
IsFoundBefore problem p out r rows (Some finding) = IsFirstOfFindings problem p out r finding
