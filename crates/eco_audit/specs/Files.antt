-- What an audit rules where the text of the report may tell something else than a patch.
use Rattle.std.specs.Prelude.{◌≡◌, ℕ}
use Rattle.eco_meaning.specs.Circuit.{Circuit}
use Rattle.eco_meaning.specs.Report.{PatchReport}
use Rattle.eco_query.specs.Problem.{ProblemValue}
use Rattle.eco_pose.specs.declared.unfinished.Stuck.{Stuck}
use Rattle.eco_pose.specs.declared.unfinished.Unfinished.{Unfinished}
use Rattle.eco_pose.specs.declared.unfinished.Unfinished.TheVariants.{GivenUp, OutOfMemory}
use Rattle.eco_pose.specs.declared.question.Question.TheVariants as questions
use Rattle.eco_pose.specs.Stuck.{IsStuck}
use Rattle.eco_report.specs.declared.file.ReportFile.{ReportFile}
use Rattle.eco_report.specs.declared.file.ReportFile.TheVariants.{Patched, Unrectifiable, Budget}
use Rattle.eco_audit.specs.declared.finding.Finding.{Finding}
use Rattle.eco_audit.specs.declared.finding.Finding.TheVariants.{NotPatched}
use Rattle.eco_audit.specs.declared.ruling.Ruling.{Ruling}
use Rattle.eco_audit.specs.declared.ruling.Ruling.TheVariants.{Sound, Fails}
use Rattle.eco_audit.specs.Findings.{IsFirstOfFindings, NoFindingBefore}
use Rattle.eco_audit.specs.Laws.{IsSolved}
use Rattle.eco_audit.specs.Outputs.{AreCompared}

-- it tells a patch, and of what it tells this holds
abbrev pub OfPatch : ReportFile → (PatchReport → Type 0) → Type 0
OfPatch (Patched r) P = P r
OfPatch (Unrectifiable input) P = ⊥
OfPatch (Budget word limit) P = ⊥

-- it tells a patch; the report, the patch and the patched netlist solve the problem
abbrev pub IsSoundFile : ProblemValue → Circuit → Circuit → ReportFile → Type 0
IsSoundFile problem p out file = OfPatch file (IsSolved problem p out)

-- The finding stands, and no earlier one does. Of a report that tells no patch it is found that it tells none.
abbrev pub IsFirstFinding : ProblemValue → Circuit → Circuit → ReportFile → Finding → Type 0
IsFirstFinding problem p out (Patched r) finding = IsFirstOfFindings problem p out r finding
IsFirstFinding problem p out (Unrectifiable input) finding = finding ≡ NotPatched
IsFirstFinding problem p out (Budget word limit) finding = finding ≡ NotPatched

-- nothing stands against it but perhaps that outputs are others, and the search gave up on that question
abbrev pub AreOutputsOpen : ProblemValue → Circuit → Circuit → ReportFile → ℕ → Stuck → Type 0
AreOutputsOpen problem p out file limit stuck = OfPatch file (λ r.
    NoFindingBefore problem p out r 12 × IsStuck problem (AreCompared problem out) limit stuck
    × (stuck.question ≡ questions.Equal out problem.goal.spec problem.goal.care))

-- it isn't known whether all is right, since that question was given up; or memory ran out
abbrev pub IsLeftOpen : ProblemValue → Circuit → Circuit → ReportFile → ℕ → Unfinished → Type 0
IsLeftOpen problem p out file limit (GivenUp stuck) = AreOutputsOpen problem p out file limit stuck.value
IsLeftOpen problem p out file limit OutOfMemory = Unit {0}

-- what is ruled: all is right; or this is found first
abbrev pub IsRuling : ProblemValue → Circuit → Circuit → ReportFile → Ruling → Type 0
IsRuling problem p out file Sound = IsSoundFile problem p out file
IsRuling problem p out file (Fails finding) = IsFirstFinding problem p out file finding
