-- What findings and solved problems say of each other.
use Rattle.eco_meaning.specs.Circuit.{Circuit}
use Rattle.eco_meaning.specs.Report.{PatchReport, Meets}
use Rattle.eco_netlist.specs.Netlists.{IsChecked}
use Rattle.eco_query.specs.Problem.{ProblemValue, IsClosed}
use Rattle.eco_audit.specs.declared.finding.Finding.{Finding}
use Rattle.eco_audit.specs.Findings.{HasFinding}
use Rattle.eco_audit.specs.Rows.{HoldBefore}

-- the report, the patch and the patched netlist solve the problem
abbrev pub IsSolved : ProblemValue → Circuit → Circuit → PatchReport → Type 0
IsSolved problem p out r = Meets problem.implementation problem.goal problem.weights problem.input_weight p out r

-- where a finding stands they don't
abbrev pub FindingsExclude : Type 0
FindingsExclude =
    (problem : ProblemValue) (p out : Circuit) (r : PatchReport) (finding : Finding) → IsChecked out →
    HasFinding problem p out r finding → IsSolved problem p out r → ⊥

-- where all rows are right they do
abbrev pub RowsSolve : Type 0
RowsSolve =
    (problem : ProblemValue) (p out : Circuit) (r : PatchReport) → IsChecked p → IsClosed p → IsChecked out →
    HoldBefore problem p out r 13 → IsSolved problem p out r
