use Rattle.std.proofs.Common.{codes}
use Rattle.std.proofs.lemmas.Result.{IfOk-weaker}
use Rattle.eco_audit.specs.Files.{IsRuling}
use Rattle.eco_audit.specs.declared.ruling.Ruling.TheVariants as ruling
use Rattle.eco_words.specs.CommandLine.{audit_options_of}
use Rattle.eco_cli.specs.declared.audit.AuditStop.TheVariants.{Found}
use Rattle.eco_cli.specs.Answers.{IsTextAnswer}
use Rattle.eco_cli.specs.Audit.{audit_rules, audit_text}
use Rattle.eco_cli.specs.Rules.{stop_code}
use Rattle.eco_cli.specs.Spent.{IsUnfinishedAnswer}
use Rattle.eco_cli.proofs.AuditStages.{found_prepared, sound_prepared, unruled_prepared}
use Rattle.eco_cli.proofs.audit.ruled.Goals as goal

pub returns-in-Ok-Sound : goal.returns-in-Ok-Sound
returns-in-Ok-Sound c = λ before after passed.
    let h : IsRuling c.args.audited.now.problem c.args.audited.now.patch c.args.audited.now.out c.args.audited.now.report ruling.Sound =
    rw c.in-Ok-Sound.field-0-is at c.in-Ok-Sound.ensures.ruling in
    IfOk-weaker c.sound.result (IsTextAnswer 0 (codes "sound\n")) _
    (sound_prepared (audit_options_of c.args.command.now) c.args.audited.now before after c.nets.ensures.checked h passed) c.sound.ensures

pub returns-in-Ok-Fails : goal.returns-in-Ok-Fails
returns-in-Ok-Fails c = λ before after passed.
    let h : IsRuling c.args.audited.now.problem c.args.audited.now.patch c.args.audited.now.out c.args.audited.now.report (ruling.Fails c.in-Ok-Fails.finding) =
    rw c.in-Ok-Fails.field-0-is at c.in-Ok-Fails.ensures.ruling in
    IfOk-weaker c.stopped.result
    (IsTextAnswer (stop_code (audit_rules (audit_options_of c.args.command.now)) (Found c.in-Ok-Fails.finding)) (audit_text (audit_options_of c.args.command.now) (Found c.in-Ok-Fails.finding))) _
    (found_prepared (audit_options_of c.args.command.now) c.args.audited.now c.in-Ok-Fails.finding before after h passed) c.stopped.ensures

pub returns-in-Err : goal.returns-in-Err
returns-in-Err c = λ before after passed.
    IfOk-weaker c.unfinished_answer.result (IsUnfinishedAnswer (audit_options_of c.args.command.now).budget c.in-Err.unfinished) _
    (unruled_prepared (audit_options_of c.args.command.now) c.args.audited.now c.in-Err.unfinished before after c.in-Err.ensures.unfinished passed) c.unfinished_answer.ensures
