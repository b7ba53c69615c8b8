use Rattle.std.proofs.lemmas.Result.{IfOk-weaker}
use Rattle.std.specs.Prelude.{codes}
use Rattle.eco_words.specs.CommandLine.{recheck_options_of}
use Rattle.eco_cli.specs.Answers.{IsTextAnswer, failed_text}
use Rattle.eco_cli.specs.Recheck.{recheck_rules, recheck_text}
use Rattle.eco_cli.specs.Rules.{stop_code}
use Rattle.eco_cli.proofs.Preparing.{stop_prepared, unread_prepared}
use Rattle.eco_cli.proofs.RecheckStages.{refuted_prepared}
use Rattle.eco_cli.proofs.recheck.prepare.Goals as goal

pub returns-in-Ok-clause-prepared : goal.returns-in-Ok-clause-prepared
returns-in-Ok-clause-prepared g c =
    let (value, passed, is) = c.in-Ok.ensures.ends in
    IfOk-weaker c.done.result (IsTextAnswer 0 (codes "refuted\n")) _
    (refuted_prepared (recheck_options_of c.args.command.now) _ _ value passed is) c.done.ensures

pub returns-in-Err-For-clause-prepared : goal.returns-in-Err-For-clause-prepared
returns-in-Err-For-clause-prepared g c =
    IfOk-weaker c.stopped.result
    (IsTextAnswer (stop_code (recheck_rules (recheck_options_of c.args.command.now)) c.in-Err-For.stop) (recheck_text (recheck_options_of c.args.command.now) c.in-Err-For.stop)) _
    (stop_prepared (recheck_rules (recheck_options_of c.args.command.now)) _ _ c.in-Err-For.stop
    (rw c.in-Err-For.field-0-is at c.in-Err-For.ensures.ends)) c.stopped.ensures

pub returns-in-Err-Unread-clause-prepared : goal.returns-in-Err-Unread-clause-prepared
returns-in-Err-Unread-clause-prepared g c =
    IfOk-weaker c.unread.result (IsTextAnswer 5 (failed_text c.in-Err-Unread.path.now)) _
    (unread_prepared (recheck_rules (recheck_options_of c.args.command.now)) _ _ c.in-Err-Unread.path
    (rw c.in-Err-Unread.field-0-is at c.in-Err-Unread.ensures.ends)) c.unread.ensures
