use Rattle.std.proofs.lemmas.Result.{IfOk-weaker}
use Rattle.eco_words.specs.CommandLine.{options_of}
use Rattle.eco_cli.specs.declared.synth.SynthStop.TheVariants.{Unrectifiable}
use Rattle.eco_cli.specs.Answers.{IsTextAnswer}
use Rattle.eco_cli.specs.Rules.{stop_code}
use Rattle.eco_cli.specs.Spent.{IsUnfinishedAnswer}
use Rattle.eco_cli.specs.Synth.{stop_text, IsMadeAnswer, synth_rules}
use Rattle.eco_cli.proofs.SynthStages.{made_prepared, unfinished_prepared, wrong_prepared}
use Rattle.eco_cli.proofs.synth.solved.Goals as goal

pub returns-in-Ok : goal.returns-in-Ok
returns-in-Ok g c = λ before after passed.
    IfOk-weaker c.patched.result (IsMadeAnswer (options_of c.args.command.now) c.in-Ok.made) _
    (made_prepared (options_of c.args.command.now) c.args.problem c.in-Ok.made before after c.in-Ok.ensures.made passed) c.patched.ensures

pub returns-in-Err-Wrong : goal.returns-in-Err-Wrong
returns-in-Err-Wrong g c = λ before after passed.
    IfOk-weaker c.stopped.result
    (IsTextAnswer (stop_code (synth_rules (options_of c.args.command.now)) (Unrectifiable c.in-Err-Wrong.input)) (stop_text (options_of c.args.command.now) (Unrectifiable c.in-Err-Wrong.input))) _
    (wrong_prepared (options_of c.args.command.now) c.args.problem c.in-Err-Wrong.input before after
    (rw c.in-Err-Wrong.field-0-is at c.in-Err-Wrong.ensures.cause) passed) c.stopped.ensures

pub returns-in-Err-Unfinished : goal.returns-in-Err-Unfinished
returns-in-Err-Unfinished g c = λ before after passed.
    IfOk-weaker c.unfinished_answer.result (IsUnfinishedAnswer (options_of c.args.command.now).budget c.in-Err-Unfinished.unfinished) _
    (unfinished_prepared (options_of c.args.command.now) c.args.problem c.in-Err-Unfinished.unfinished before after
    (rw c.in-Err-Unfinished.field-0-is at c.in-Err-Unfinished.ensures.cause) passed) c.unfinished_answer.ensures
