use Rattle.std.proofs.Common.{subst, sym}
use Rattle.std.proofs.lemmas.Result.{IfOk-weaker}
use Rattle.eco_words.specs.CommandLine.{options_of}
use Rattle.eco_inputs.specs.declared.halt.Halt.TheVariants as halt
use Rattle.eco_cli.specs.Answers.{IsTextAnswer, failed_text}
use Rattle.eco_cli.specs.Rules.{stop_code}
use Rattle.eco_cli.specs.Synth.{stop_text, problem_rows, synth_rules}
use Rattle.eco_cli.proofs.Preparing.{stop_prepared, unread_prepared}
use Rattle.eco_cli.proofs.SynthStages.{can_bound, problem_halts}
use Rattle.eco_cli.proofs.synth.prepare.Goals as goal

pub solved-requires : goal.solved-requires
solved-requires g c =
    let (value, passed, is) = c.in-Ok.ensures.ends in
    record { single = can_bound (options_of c.args.command.now) _ _ (subst ((problem_rows (options_of c.args.command.now)).passes _) (sym is) passed); budget = c.requires.budget }

pub returns-in-Ok-clause-prepared : goal.returns-in-Ok-clause-prepared
returns-in-Ok-clause-prepared g c =
    let (value, passed, is) = c.in-Ok.ensures.ends in
    c.solved.ensures _ _ (subst ((problem_rows (options_of c.args.command.now)).passes _) (sym is) passed)

pub returns-in-Err-For-clause-prepared : goal.returns-in-Err-For-clause-prepared
returns-in-Err-For-clause-prepared g c =
    IfOk-weaker c.stopped.result
    (IsTextAnswer (stop_code (synth_rules (options_of c.args.command.now)) c.in-Err-For.stop) (stop_text (options_of c.args.command.now) c.in-Err-For.stop)) _
    (stop_prepared (synth_rules (options_of c.args.command.now)) _ _ c.in-Err-For.stop
    (problem_halts (options_of c.args.command.now) _ _ (halt.For c.in-Err-For.stop) (rw c.in-Err-For.field-0-is at c.in-Err-For.ensures.ends))) c.stopped.ensures

pub returns-in-Err-Unread-clause-prepared : goal.returns-in-Err-Unread-clause-prepared
returns-in-Err-Unread-clause-prepared g c =
    IfOk-weaker c.unread.result (IsTextAnswer 5 (failed_text c.in-Err-Unread.path.now)) _
    (unread_prepared (synth_rules (options_of c.args.command.now)) _ _ c.in-Err-Unread.path
    (problem_halts (options_of c.args.command.now) _ _ (halt.Unread c.in-Err-Unread.path) (rw c.in-Err-Unread.field-0-is at c.in-Err-Unread.ensures.ends))) c.unread.ensures
