use Rattle.std.proofs.lemmas.Result.{IfOk-weaker}
use Rattle.eco_words.specs.CommandLine.{options_of}
use Rattle.eco_cli.specs.Synth.{IsPatchAnswer}
use Rattle.eco_cli.proofs.synth.patched.Goals as goal

pub returns : goal.returns
returns c =
    IfOk-weaker c.written.result (IsPatchAnswer (options_of c.args.command.now) c.in_ok-texts.field-0) _
    (λ answer is. (c.in_ok-texts.field-0, c.in_ok-texts.ensures, is)) c.written.ensures
