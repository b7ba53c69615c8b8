use Rattle.std.proofs.Common.{subst, sym}
use Rattle.std.proofs.lemmas.Result.{IfOk-weaker}
use Rattle.eco_words.specs.CommandLine.{locate_options_of}
use Rattle.eco_inputs.specs.declared.halt.Halt.TheVariants as halt
use Rattle.eco_cli.specs.Answers.{IsTextAnswer, failed_text}
use Rattle.eco_cli.specs.Locate.{changes_rows, locate_rules, locate_text}
use Rattle.eco_cli.specs.Rules.{stop_code}
use Rattle.eco_cli.proofs.Preparing.{stop_prepared, unread_prepared}
use Rattle.eco_cli.proofs.LocateStages.{changes_halts}
use Rattle.eco_cli.proofs.locate.prepare.Goals as goal

pub returns-in-Ok-clause-prepared : goal.returns-in-Ok-clause-prepared
returns-in-Ok-clause-prepared g c =
    let (value, passed, is) = c.in-Ok.ensures.ends in
    c.with_nets-answer.ensures _ _ (subst ((changes_rows (locate_options_of c.args.command.now)).passes _) (sym is) passed)

pub returns-in-Err-For-clause-prepared : goal.returns-in-Err-For-clause-prepared
returns-in-Err-For-clause-prepared g c =
    IfOk-weaker c.stopped.result
    (IsTextAnswer (stop_code (locate_rules (locate_options_of c.args.command.now)) c.in-Err-For.stop) (locate_text (locate_options_of c.args.command.now) c.in-Err-For.stop)) _
    (stop_prepared (locate_rules (locate_options_of c.args.command.now)) _ _ c.in-Err-For.stop
    (changes_halts (locate_options_of c.args.command.now) _ _ (halt.For c.in-Err-For.stop) (rw c.in-Err-For.field-0-is at c.in-Err-For.ensures.ends))) c.stopped.ensures

pub returns-in-Err-Unread-clause-prepared : goal.returns-in-Err-Unread-clause-prepared
returns-in-Err-Unread-clause-prepared g c =
    IfOk-weaker c.unread.result (IsTextAnswer 5 (failed_text c.in-Err-Unread.path.now)) _
    (unread_prepared (locate_rules (locate_options_of c.args.command.now)) _ _ c.in-Err-Unread.path
    (changes_halts (locate_options_of c.args.command.now) _ _ (halt.Unread c.in-Err-Unread.path) (rw c.in-Err-Unread.field-0-is at c.in-Err-Unread.ensures.ends))) c.unread.ensures
