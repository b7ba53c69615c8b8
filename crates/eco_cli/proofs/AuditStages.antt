-- What `audit` comes to, from stage to stage.
use Rattle.std.proofs.Common.{◌≡◌, inl, inr, codes, refl}
use Rattle.eco_audit.proofs.OneFinding.{no_finding}
use Rattle.eco_audit.specs.declared.finding.Finding.{Finding}
use Rattle.eco_audit.specs.Files.{IsFirstFinding, IsLeftOpen, IsSoundFile}
use Rattle.eco_audit.specs.Laws.{IsSolved}
use Rattle.eco_meaning.specs.Circuit.{Circuit}
use Rattle.eco_meaning.specs.Report.{PatchReport}
use Rattle.eco_netlist.specs.Netlists.{IsChecked}
use Rattle.eco_outside.specs.Store.{StoreView}
use Rattle.eco_query.specs.Problem.{ProblemValue}
use Rattle.eco_pose.specs.declared.unfinished.Unfinished.{Unfinished}
use Rattle.eco_pose.specs.declared.unfinished.Unfinished.TheVariants.{GivenUp, OutOfMemory}
use Rattle.eco_report.specs.declared.file.ReportFile.{ReportFile}
use Rattle.eco_report.specs.declared.file.ReportFile.TheVariants.{Patched, Unrectifiable, Budget}
use Rattle.eco_words.specs.CommandLine.{AuditOptions}
use Rattle.eco_cli.specs.declared.answer.Answer.{Answer}
use Rattle.eco_cli.specs.declared.audit.Audited.{Audited}
use Rattle.eco_cli.specs.declared.audit.AuditStop.{AuditStop}
use Rattle.eco_cli.specs.declared.audit.AuditStop.TheVariants.{Found}
use Rattle.eco_inputs.specs.declared.halt.Halt.{Halt}
use Rattle.eco_cli.specs.Answers.{IsTextAnswer}
use Rattle.eco_cli.specs.Audit.{audit_rows, audit_rules, audit_text, audited_rows, finding_row, long_audit}
use Rattle.eco_inputs.specs.Reading.{Halts}
use Rattle.eco_inputs.specs.Rows.{named_row}
use Rattle.eco_cli.specs.Rules.{IsPrepared, stop_code}
use Rattle.eco_cli.specs.Spent.{IsUnfinishedAnswer}
use Rattle.eco_cli.specs.Printing.{budget_text}
use Rattle.eco_cli.proofs.Preparing.{spent_prepared, stop_prepared}
use Rattle.eco_inputs.proofs.ReadingLaws.{front_halts}

-- nothing to audit is come to
pub audited_halts : (options : AuditOptions) (before after : StoreView) (why : Halt AuditStop) → Halts (long_audit options) (audited_rows options) before after why → Halts (long_audit options) (audit_rows options) before after why
audited_halts options = front_halts (long_audit options) (audited_rows options) (λ a. named_row Found (finding_row a))

-- the report of what is right tells a patch
patch_told : (problem : ProblemValue) (p out : Circuit) (file : ReportFile) → IsSoundFile problem p out file → (r : PatchReport) × (file ≡ Patched r) × IsSolved problem p out r
patch_told problem p out (Patched r) sound = (r, refl, sound)
patch_told problem p out (Unrectifiable input) sound = absurd sound
patch_told problem p out (Budget word limit) sound = absurd sound

-- ---- the answer of what is audited

-- all is right
pub sound_prepared : (options : AuditOptions) (a : Audited) (before after : StoreView) → IsChecked a.out → IsSoundFile a.problem a.patch a.out a.report → (audited_rows options).passes before.files a → (answer : Answer) → IsTextAnswer 0 (codes "sound\n") answer → IsPrepared (audit_rules options) before after answer
sound_prepared options a before after checked sound passed answer (zero, none, text) =
    let (r, told, meets) = patch_told a.problem a.patch a.out a.report sound in
    inl (
      zero,
      record {
        value = a;
        passed = (a, passed, ((λ finding. no_finding a.problem a.patch a.out a.report finding checked sound), refl));
        answers = record { none = none; report = r; told = told; meets = meets; text = text };
      },
    )

-- this is found
pub found_prepared : (options : AuditOptions) (a : Audited) (finding : Finding) (before after : StoreView) → IsFirstFinding a.problem a.patch a.out a.report finding → (audited_rows options).passes before.files a → (answer : Answer) → IsTextAnswer (stop_code (audit_rules options) (Found finding)) (audit_text options (Found finding)) answer → IsPrepared (audit_rules options) before after answer
found_prepared options a finding before after first passed =
    stop_prepared (audit_rules options) before after (Found finding) (inr (a, passed, (finding, refl, first)), tt)

-- a question was given up; or memory ran out, and there is no answer
pub unruled_prepared : (options : AuditOptions) (a : Audited) (unfinished : Unfinished) (before after : StoreView) → IsLeftOpen a.problem a.patch a.out a.report options.budget unfinished → (audited_rows options).passes before.files a → (answer : Answer) → IsUnfinishedAnswer options.budget unfinished answer → IsPrepared (audit_rules options) before after answer
unruled_prepared options a (GivenUp stuck) before after left passed answer is = spent_prepared (audit_rules options) before after a stuck.value (budget_text options.budget stuck.value) passed (left, refl) answer is
unruled_prepared options a OutOfMemory before after left passed answer none = absurd none
