-- What is right of the rows refutes the findings of them.
use Rattle.std.proofs.Common.{◌≡◌, inl, inr, ℕ, suc, ◌≤◌, List, ◌∷◌, arith, subst, sym}
use Rattle.std.proofs.Math.Nat.{eq-or-lt_of_le}
use Rattle.std.specs.List.{Contains}
use Rattle.std.proofs.lemmas.List.Elements.{All-contains, Contains-append_right}
use Rattle.eco_lists.proofs.Members.{Contains_first}
use Rattle.eco_meaning.specs.Circuit.{Circuit}
use Rattle.eco_meaning.specs.Report.{BaseSignal, TargetGroup, PatchReport}
use Rattle.eco_query.specs.Problem.{ProblemValue}
use Rattle.eco_audit.specs.declared.finding.Finding.{Finding}
use Rattle.eco_audit.specs.declared.finding.Finding.TheVariants as finding
use Rattle.eco_audit.specs.Reported.{Saying, IsSaidOfAll, IsFirstWrong, IsReportedCandidate, IsReportedWeight, IsReadInTime, IsReportedNeeded}
use Rattle.eco_audit.specs.Findings.{HasFinding, IsFirstOfFindings, NoFindingBefore, row_of}
use Rattle.eco_audit.specs.Rows.{Holds, HoldBefore}

-- what can be said of all reported signals is wrong of none
pub none_wrong : (Says : Saying) (groups : List TargetGroup) (name : List ℕ) → IsSaidOfAll Says groups → IsFirstWrong Says groups name → ⊥
none_wrong Says groups name all is =
    let here = is.wrong in
    here.wrong (All-contains (Says is.before is.group) is.group.base here.reported (all is.before is.group is.behind is.split)
    (subst (λ (l : List BaseSignal). Contains l here.reported) (sym here.split) (Contains-append_right here.front (here.reported ∷ here.back) here.reported (Contains_first here.reported here.back))))

-- no finding stands of the rows that are right
pub no_fault : (problem : ProblemValue) (p out : Circuit) (r : PatchReport) (rows : ℕ) → rows ≤ 12 → HoldBefore problem p out r rows → NoFindingBefore problem p out r rows
no_fault problem p out r rows most hold finding.NotPatched less fault = fault
no_fault problem p out r rows most hold finding.Targets less fault = fault (hold 1 less)
no_fault problem p out r rows most hold finding.Ports less fault = fault (hold 2 less)
no_fault problem p out r rows most hold (finding.Candidate name) less fault = none_wrong (IsReportedCandidate problem) r.groups name (hold 3 less) fault
no_fault problem p out r rows most hold (finding.Weight name) less fault = none_wrong (IsReportedWeight problem) r.groups name (hold 4 less) fault
no_fault problem p out r rows most hold finding.Cost less fault = fault (hold 5 less)
no_fault problem p out r rows most hold finding.Gates less fault = fault (hold 6 less)
no_fault problem p out r rows most hold (finding.Inner name) less fault = hold 7 less name fault.holds.wire fault.holds.taken
no_fault problem p out r rows most hold (finding.Reach name) less fault = none_wrong (IsReadInTime problem.implementation p) r.groups name (hold 8 less) fault
no_fault problem p out r rows most hold finding.Splice less fault = fault (hold 9 less)
no_fault problem p out r rows most hold (finding.Need name) less fault = none_wrong (IsReportedNeeded problem p) r.groups name (hold 10 less) fault
no_fault problem p out r rows most hold finding.Bound less fault = fault (hold 11 less)
no_fault problem p out r rows most hold (finding.Differs input) less fault = absurd (omega (arith, less, most))

-- so a finding that stands behind such rows is the first
pub first_fault : (problem : ProblemValue) (p out : Circuit) (r : PatchReport) (f : Finding) → HoldBefore problem p out r (row_of f) → row_of f ≤ 12 → HasFinding problem p out r f → IsFirstOfFindings problem p out r f
first_fault problem p out r f hold most stands = record { stands = stands; first = no_fault problem p out r (row_of f) most hold }

-- of no rows nothing is said, and one more is right
pub no_rows : (problem : ProblemValue) (p out : Circuit) (r : PatchReport) → HoldBefore problem p out r 1
no_rows problem p out r row less =
    let none : row ≡ 0 = omega (arith, less) in
    subst (Holds problem p out r) (sym none) tt

pub more_rows : (problem : ProblemValue) (p out : Circuit) (r : PatchReport) (rows : ℕ) → HoldBefore problem p out r rows → Holds problem p out r rows → HoldBefore problem p out r (suc rows)
more_rows problem p out r rows hold here row less =
    let most : row ≤ rows = omega (arith, less) in
    elim (eq-or-lt_of_le most) [
      | inl same ↦ subst (Holds problem p out r) (sym same) here
      | inr below ↦ hold row below
    ]
