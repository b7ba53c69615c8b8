use Rattle.std.proofs.lemmas.Result.{IfOk-weaker}
use Rattle.eco_words.specs.CommandLine.{locate_options_of}
use Rattle.eco_cli.specs.Choice.{IsWrittenAnswer}
use Rattle.eco_cli.proofs.cutting.with_cut.Goals as goal

pub returns-in-Ok : goal.returns-in-Ok
returns-in-Ok c =
    IfOk-weaker c.written.result (IsWrittenAnswer (locate_options_of c.args.command.now) c.in-Ok.bytes.items c.args.text.items) _
    (λ answer is. (c.in-Ok.bytes.items, c.in-Ok.ensures.0, c.in-Ok.ensures.1, is)) c.written.ensures
