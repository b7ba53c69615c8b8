-- Of what is ruled: one first finding at most, and none where all is right.
use Rattle.std.specs.Prelude.{◌≡◌, []}
use Rattle.eco_meaning.specs.Circuit.{Circuit}
use Rattle.eco_netlist.specs.Netlists.{IsChecked}
use Rattle.eco_query.specs.Problem.{ProblemValue}
use Rattle.eco_report.specs.declared.file.ReportFile.{ReportFile}
use Rattle.eco_audit.specs.declared.finding.Finding.{Finding}
use Rattle.eco_audit.specs.declared.finding.Finding.TheVariants as finding
use Rattle.eco_audit.specs.Files.{IsFirstFinding, IsSoundFile}

-- the finding but for the input that it shows, which is left open
abbrev pub determined_finding : Finding → Finding
determined_finding finding.NotPatched = finding.NotPatched
determined_finding finding.Targets = finding.Targets
determined_finding finding.Ports = finding.Ports
determined_finding (finding.Candidate name) = finding.Candidate name
determined_finding (finding.Weight name) = finding.Weight name
determined_finding finding.Cost = finding.Cost
determined_finding finding.Gates = finding.Gates
determined_finding (finding.Inner name) = finding.Inner name
determined_finding (finding.Reach name) = finding.Reach name
determined_finding finding.Splice = finding.Splice
determined_finding (finding.Need name) = finding.Need name
determined_finding finding.Bound = finding.Bound
determined_finding (finding.Differs input) = finding.Differs []

-- two first findings are one, but for the input
abbrev pub OneFindingIsFirst : Type 0
OneFindingIsFirst =
    (problem : ProblemValue) (p out : Circuit) (file : ReportFile) (a b : Finding) →
    IsFirstFinding problem p out file a → IsFirstFinding problem p out file b → determined_finding a ≡ determined_finding b

-- where all is right, there is no finding
abbrev pub SoundHasNoFinding : Type 0
SoundHasNoFinding =
    (problem : ProblemValue) (p out : Circuit) (file : ReportFile) (a : Finding) →
    IsChecked out → IsSoundFile problem p out file → IsFirstFinding problem p out file a → ⊥
