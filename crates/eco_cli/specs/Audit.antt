-- The command `audit`: its rows, from the words to what is found of a patch, why it stops, and what it means that it
-- succeeds.
use Rattle.std.specs.Prelude.{◌≡◌, ℕ, Bool, true, false, List, [], ◌∷◌, ◌++◌, map, codes, Option, Some, None}
use Rattle.eco_audit.specs.declared.finding.Finding.{Finding}
use Rattle.eco_audit.specs.declared.finding.Finding.TheVariants as finding
use Rattle.eco_audit.specs.Files.{IsFirstFinding, AreOutputsOpen}
use Rattle.eco_audit.specs.FileLaws.{determined_finding}
use Rattle.eco_meaning.specs.Circuit.{Circuit}
use Rattle.eco_meaning.specs.Report.{PatchReport, Meets}
use Rattle.eco_netlist.specs.declared.draft.TargetRule.TheVariants.{Never}
use Rattle.eco_outside.specs.Store.{Files}
use Rattle.eco_query.specs.Problem.{IsClosed, ProblemValue}
use Rattle.eco_report.specs.Texts.{bit_digit}
use Rattle.eco_report.specs.declared.file.ReportFile.{ReportFile}
use Rattle.eco_report.specs.declared.file.ReportFile.TheVariants.{Patched}
use Rattle.eco_words.specs.CommandLine.{AuditOptions}
use Rattle.eco_inputs.specs.declared.TheConstants.{MOST_PROOF_BYTES}
use Rattle.eco_cli.specs.declared.audit.Audited.{Audited}
use Rattle.eco_cli.specs.declared.audit.Material.{Material}
use Rattle.eco_cli.specs.declared.audit.AuditStop.{AuditStop}
use Rattle.eco_cli.specs.declared.audit.AuditStop.TheVariants.{SamePath, NoProblem, InMade, InReport, Found}
use Rattle.eco_inputs.specs.declared.halt.FileError.{FileError}
use Rattle.eco_inputs.specs.declared.inputs.Inputs.{Inputs}
use Rattle.eco_inputs.specs.declared.kinds.NetlistError.{NetlistError}
use Rattle.eco_inputs.specs.declared.paths.FileOption.{FileOption}
use Rattle.eco_inputs.specs.declared.paths.FileOption.TheVariants.{Patch, Out, Report}
use Rattle.eco_cli.specs.Answers.{Write}
use Rattle.eco_inputs.specs.Inputs.{AreFit, determined_input, input_rows, long_input, pair_row}
use Rattle.eco_inputs.specs.Kinds.{netlist_kind, report_kind, determined_netlist}
use Rattle.eco_inputs.specs.Paths.{FilesBy, option_name, paths_row, problem_files_of, problem_path_of}
use Rattle.eco_inputs.specs.Reading.{Oversize, file_row, oversize_of, determined_file}
use Rattle.eco_inputs.specs.Rows.{Row, four_rows, named_row, test_row, then_row, value_row}
use Rattle.eco_cli.specs.Rules.{Rules}
use Rattle.eco_cli.specs.Printing.{budget_text}
use Rattle.eco_inputs.specs.Texts.{input_text, line_error_text, netlist_text}

-- ---- its files

-- the path that it gives for an option; nothing where it gives none
abbrev pub audit_path_of : AuditOptions → FileOption → List ℕ
audit_path_of options Patch = options.patch
audit_path_of options Out = options.out
audit_path_of options Report = options.report
audit_path_of options file = problem_path_of options.problem file

-- its files: those of the problem, the patch, the patched netlist and the report
abbrev pub audit_files_of : AuditOptions → FilesBy FileOption
audit_files_of options =
    problem_files_of options.problem
    ++ (Patch, Some options.patch) ∷ (Out, Some options.out) ∷ (Report, Some options.report) ∷ []

-- ---- the single rows

-- the file of the patch or of the patched netlist has an error; or it gives a netlist, which has no targets
abbrev pub made_row : AuditOptions → FileOption → Row (Option Files) (FileError NetlistError) Circuit
made_row options file = file_row (netlist_kind Never) (audit_path_of options file) MOST_PROOF_BYTES

-- the report's file has an error; or it gives a report
abbrev pub report_row : AuditOptions → Row (Option Files) (FileError ℕ) ReportFile
report_row options = file_row report_kind options.report MOST_PROOF_BYTES

-- what is audited
abbrev pub audited : ProblemValue → Circuit → Circuit → ReportFile → Audited
audited problem p out report = record { problem = problem; patch = p; out = out; report = report }

-- this is the first finding; or there is none
abbrev pub finding_row : Audited → Row (Option Files) Finding Audited
finding_row a =
    test_row (IsFirstFinding a.problem a.patch a.out a.report)
    ((finding : Finding) → IsFirstFinding a.problem a.patch a.out a.report finding → ⊥) a

-- ---- the rows in order

abbrev pub AuditRows : Type 0 → Type 1
AuditRows Value = Row (Option Files) AuditStop Value

-- what the files give that were read in this order
abbrev pub material_of : ((Inputs × Circuit) × Circuit) × ReportFile → Material
material_of read = record { inputs = read.0.0.0; patch = read.0.0.1; out = read.0.1; report = read.1 }

-- the files of the problem, the patch, the patched netlist and the report
abbrev pub material_rows : AuditOptions → AuditRows Material
material_rows options =
    four_rows material_of (named_row NoProblem (input_rows options.problem)) (named_row (InMade Patch) (made_row options Patch))
    (named_row (InMade Out) (made_row options Out)) (named_row InReport (report_row options))

-- behind the files, whether the netlists are a problem
abbrev pub from_material : AuditOptions → Material → AuditRows Audited
from_material options read =
    then_row (named_row NoProblem (pair_row options.problem read.inputs)) (λ problem. value_row (audited problem read.patch read.out read.report))

abbrev pub from_paths : AuditOptions → AuditRows Audited
from_paths options = then_row (material_rows options) (from_material options)

-- the rows that come to what is audited
abbrev pub audited_rows : AuditOptions → AuditRows Audited
audited_rows options = then_row (named_row SamePath (paths_row (audit_files_of options))) (λ _. from_paths options)

-- all rows of the command
abbrev pub audit_rows : AuditOptions → AuditRows Audited
audit_rows options = then_row (audited_rows options) (λ a. named_row Found (finding_row a))

-- ---- why it stops

-- what is printed of a finding
abbrev pub finding_text : Finding → List ℕ
finding_text finding.NotPatched = codes "fails notpatched\n"
finding_text finding.Targets = codes "fails targets\n"
finding_text finding.Ports = codes "fails ports\n"
finding_text (finding.Candidate name) = codes "fails candidate " ++ name ++ codes "\n"
finding_text (finding.Weight name) = codes "fails weight " ++ name ++ codes "\n"
finding_text finding.Cost = codes "fails cost\n"
finding_text finding.Gates = codes "fails gates\n"
finding_text (finding.Inner name) = codes "fails inner " ++ name ++ codes "\n"
finding_text (finding.Reach name) = codes "fails reach " ++ name ++ codes "\n"
finding_text finding.Splice = codes "fails splice\n"
finding_text (finding.Need name) = codes "fails need " ++ name ++ codes "\n"
finding_text finding.Bound = codes "fails bound\n"
finding_text (finding.Differs input) = codes "fails differs " ++ map bit_digit input ++ codes "\n"

-- what is printed of a stop
abbrev pub audit_text : AuditOptions → AuditStop → List ℕ
audit_text options (SamePath file) = codes "refused samepath " ++ audit_path_of options file ++ codes "\n"
audit_text options (NoProblem error) = input_text error
audit_text options (InMade file error) = codes "refused " ++ option_name file ++ codes " " ++ netlist_text error ++ codes "\n"
audit_text options (InReport error) = line_error_text (codes "report") (codes "line") error
audit_text options (Found finding) = finding_text finding

-- the stop is an answer of no: something is found
abbrev pub is_finding : AuditStop → Bool
is_finding (SamePath file) = false
is_finding (NoProblem error) = false
is_finding (InMade file error) = false
is_finding (InReport error) = false
is_finding (Found finding) = true

-- the file, where the stop is that it is too long
abbrev pub long_audit : AuditOptions → AuditStop → Option Oversize
long_audit options (SamePath file) = None
long_audit options (NoProblem error) = long_input options.problem error
long_audit options (InMade file error) = oversize_of (audit_path_of options file) MOST_PROOF_BYTES error
long_audit options (InReport error) = oversize_of options.report MOST_PROOF_BYTES error
long_audit options (Found finding) = None

-- the stop with what is left open taken out: which loop is shown, which place of an error of the grammar, at which input the
-- outputs are others
abbrev pub determined_audit : AuditStop → AuditStop
determined_audit (SamePath file) = SamePath file
determined_audit (NoProblem error) = NoProblem (determined_input error)
determined_audit (InMade file error) = InMade file (determined_file determined_netlist error)
determined_audit (InReport error) = InReport (determined_file (λ own. own) error)
determined_audit (Found finding) = Found (determined_finding finding)

-- ---- its success

-- No file is written, and the text says so: the report tells a patch; it, the patch and the patched netlist solve the problem.
pub record IsAccepted (a : Audited) (writes : List Write) (printed : List ℕ) : Type 0 where
  pub none : writes ≡ []
  pub report : PatchReport
  pub told : a.report ≡ Patched report
  pub meets : Meets a.problem.implementation a.problem.goal a.problem.weights a.problem.input_weight a.patch a.out report
  pub text : printed ≡ codes "sound\n"

-- the command, at these options
abbrev pub audit_rules : AuditOptions → Rules
audit_rules options = record {
  Stop = AuditStop;
  Value = Audited;
  rows = audit_rows options;
  Matter = Audited;
  asking = audited_rows options;
  gives_up = λ a stuck text. AreOutputsOpen a.problem a.patch a.out a.report options.budget stuck × (text ≡ budget_text options.budget stuck);
  too_long = long_audit options;
  is_no = is_finding;
  says = audit_text options;
  determine = determined_audit;
  answers = IsAccepted;
}

-- ---- between its stages

-- the files of the problem are fit, and the patch and the patched netlist have no targets
pub record IsUsable (read : Material) : Type 0 where
  pub fit : AreFit read.inputs
  pub patch : IsClosed read.patch
  pub out : IsClosed read.out

-- the patch and the patched netlist have no targets
pub record AreMadeClosed (a : Audited) : Type 0 where
  pub patch : IsClosed a.patch
  pub out : IsClosed a.out

-- the files are these
abbrev pub IsAuditedOf : Audited → Audited → Type 0
IsAuditedOf made value = made ≡ value
