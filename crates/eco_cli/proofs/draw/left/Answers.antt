use Rattle.std.proofs.Common.{inr}
use Rattle.std.proofs.lemmas.Result.{IfOk-weaker}
use Rattle.eco_words.specs.CommandLine.{gen_options_of}
use Rattle.eco_cli.specs.Gen.{KeepsStuck}
use Rattle.eco_cli.proofs.draw.left.Goals as goal

pub returns-in-GivenUp : goal.returns-in-GivenUp
returns-in-GivenUp c =
    IfOk-weaker c.spent.result (KeepsStuck (gen_options_of c.args.command.now) c.into_inner.result) _
    (λ answer is. inr (c.into_inner.result, is)) c.spent.ensures
