use Rattle.std.proofs.lemmas.Result.{IfOk-weaker}
use Rattle.eco_targets.specs.Made.{IsMadeLeast}
use Rattle.eco_targets.specs.declared.Made.{Made}
use Rattle.eco_words.specs.CommandLine.{options_of}
use Rattle.eco_cli.specs.Synth.{IsChosenFor}
use Rattle.eco_cli.proofs.ChosenLaws.{chosen_least}
use Rattle.eco_cli.proofs.synth.chosen_for.Goals as goal

pub returns-in-Some-clause-made : goal.returns-in-Some-clause-made
returns-in-Some-clause-made g c =
    let options = options_of c.args.command.now in
    let problem = c.args.problem.now in
    IfOk-weaker c.synthesise_least.result (λ (made : Made). IsMadeLeast problem made.patch made.out made.report)
    (λ (made : Made). IsChosenFor options problem made.patch made.out made.report)
    (λ made is. chosen_least options problem made.patch made.out made.report c.in-Some.effort c.in-Some.is is) c.synthesise_least.ensures.made
