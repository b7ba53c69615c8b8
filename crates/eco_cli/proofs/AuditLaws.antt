-- The rows of `audit` have one outcome: a line for each row.
use Rattle.std.proofs.Common.{◌≡◌, inl, inr, true, Some, ap, refl}
use Rattle.eco_audit.proofs.OneFinding.{one_finding}
use Rattle.eco_audit.specs.declared.finding.Finding.{Finding}
use Rattle.eco_audit.specs.Files.{IsFirstFinding}
use Rattle.eco_audit.specs.FileLaws.{determined_finding}
use Rattle.eco_netlist.specs.declared.draft.TargetRule.TheVariants.{Never}
use Rattle.eco_outside.specs.Store.{Files}
use Rattle.eco_words.specs.CommandLine.{AuditOptions}
use Rattle.eco_inputs.specs.declared.TheConstants.{MOST_PROOF_BYTES}
use Rattle.eco_cli.specs.declared.audit.Audited.{Audited}
use Rattle.eco_cli.specs.declared.audit.Material.{Material}
use Rattle.eco_cli.specs.declared.audit.AuditStop.{AuditStop}
use Rattle.eco_cli.specs.declared.audit.AuditStop.TheVariants.{SamePath, NoProblem, InMade, InReport, Found}
use Rattle.eco_inputs.specs.declared.paths.FileOption.{FileOption}
use Rattle.eco_inputs.specs.declared.paths.FileOption.TheVariants.{Patch, Out}
use Rattle.eco_cli.specs.Audit.{audit_files_of, audit_path_of, audit_rows, audit_rules, audited, audited_rows, determined_audit, finding_row, from_material, from_paths, is_finding, made_row, material_of, material_rows, report_row}
use Rattle.eco_inputs.specs.Inputs.{input_rows, pair_row, determined_input}
use Rattle.eco_inputs.specs.Kinds.{netlist_kind, report_kind, determined_netlist}
use Rattle.eco_inputs.specs.Paths.{paths_row}
use Rattle.eco_inputs.specs.Reading.{determined_file}
use Rattle.eco_inputs.specs.Rows.{IsRow, named_row, value_row}
use Rattle.eco_cli.specs.Rules.{IsLawful}
use Rattle.eco_inputs.proofs.InputLaws.{input_law, pair_law}
use Rattle.eco_inputs.proofs.KindLaws.{netlists, reports}
use Rattle.eco_inputs.proofs.PathLaws.{repeat_law}
use Rattle.eco_inputs.proofs.ReadingLaws.{file_law}
use Rattle.eco_inputs.proofs.RowLaws.{four_law, named_law, test_law, then_law, value_law}

-- ---- the rows

finding_law : (a : Audited) (files : Files) → IsRow determined_audit (named_row Found (finding_row a)) (Some files)
finding_law a files =
    named_law determined_finding determined_audit Found (finding_row a) (Some files) (λ f g same. ap Found same)
    (test_law determined_finding (IsFirstFinding a.problem a.patch a.out a.report)
    ((finding : Finding) → IsFirstFinding a.problem a.patch a.out a.report finding → ⊥) a (Some files)
    (one_finding a.problem a.patch a.out a.report) (λ f first none. none f first))

made_law : (options : AuditOptions) (file : FileOption) (files : Files) → IsRow determined_audit (named_row (InMade file) (made_row options file)) (Some files)
made_law options file files =
    named_law (determined_file determined_netlist) determined_audit (InMade file) (made_row options file) (Some files)
    (λ a b same. ap (InMade file) same)
    (file_law determined_netlist (netlist_kind Never) (netlists Never) (audit_path_of options file) MOST_PROOF_BYTES files)

material_law : (options : AuditOptions) (files : Files) → IsRow determined_audit (material_rows options) (Some files)
material_law options files =
    let inputs = named_law determined_input determined_audit NoProblem (input_rows options.problem) (Some files) (λ a b same. ap NoProblem same) (input_law options.problem files) in
    let report = named_law (determined_file (λ own. own)) determined_audit InReport (report_row options) (Some files) (λ a b same. ap InReport same) (file_law (λ own. own) report_kind reports options.report MOST_PROOF_BYTES files) in
    four_law determined_audit material_of (named_row NoProblem (input_rows options.problem)) (named_row (InMade Patch) (made_row options Patch))
    (named_row (InMade Out) (made_row options Out)) (named_row InReport (report_row options)) (Some files)
    inputs (made_law options Patch files) (made_law options Out files) report

problem_law : (options : AuditOptions) (read : Material) (files : Files) → IsRow determined_audit (from_material options read) (Some files)
problem_law options read files =
    then_law determined_audit (named_row NoProblem (pair_row options.problem read.inputs))
    (λ problem. value_row (audited problem read.patch read.out read.report)) (Some files)
    (named_law determined_input determined_audit NoProblem (pair_row options.problem read.inputs) (Some files) (λ a b same. ap NoProblem same)
    (pair_law options.problem read.inputs files))
    (λ problem. value_law determined_audit (audited problem read.patch read.out read.report) (Some files))

paths_law : (options : AuditOptions) (files : Files) → IsRow determined_audit (from_paths options) (Some files)
paths_law options files =
    then_law determined_audit (material_rows options) (from_material options) (Some files)
    (material_law options files) (λ read. problem_law options read files)

audited_law : (options : AuditOptions) (files : Files) → IsRow determined_audit (audited_rows options) (Some files)
audited_law options files =
    then_law determined_audit (named_row SamePath (paths_row (audit_files_of options))) (λ _. from_paths options) (Some files)
    (named_law (λ own. own) determined_audit SamePath (paths_row (audit_files_of options)) (Some files) (λ a b same. ap SamePath same)
    (repeat_law (audit_files_of options) files))
    (λ _. paths_law options files)

rows_law : (options : AuditOptions) (files : Files) → IsRow determined_audit (audit_rows options) (Some files)
rows_law options files =
    then_law determined_audit (audited_rows options) (λ a. named_row Found (finding_row a)) (Some files)
    (audited_law options files) (λ a. finding_law a files)

determined_no : (why : AuditStop) → is_finding (determined_audit why) ≡ is_finding why
determined_no (SamePath file) = refl
determined_no (NoProblem error) = refl
determined_no (InMade file error) = refl
determined_no (InReport error) = refl
determined_no (Found finding) = refl

-- where all files were read and the netlists are a problem, nothing is refused
unrefused : (options : AuditOptions) (files : Files) (a : Audited) → (audited_rows options).passes (Some files) a → (why : AuditStop) → (audit_rows options).stands (Some files) why → is_finding why ≡ true
unrefused options files a passed why (inl stands) = absurd ((audited_law options files).apart why a stands passed)
unrefused options files a passed why (inr (other, also, found)) = ap is_finding found.1

pub audit_law : (options : AuditOptions) → IsLawful (audit_rules options)
audit_law options = record { rows = rows_law options; determined = determined_no; asked = unrefused options }
