-- What was chosen, with the bound in its report, is what is made.
use Rattle.std.proofs.Common.{subst, sym}
use Rattle.eco_words.specs.CommandLine.{options_of}
use Rattle.eco_cli.specs.Synth.{IsMadeFor}
use Rattle.eco_cli.proofs.BoundLaws.{made_with}
use Rattle.eco_cli.proofs.synth.with_bound.Goals as goal

pub returns-in-Ok-clause-made : goal.returns-in-Ok-clause-made
returns-in-Ok-clause-made c =
    let problem = c.args.problem.now in
    let options = options_of c.args.command.now in
    let made = c.args.made in
    subst (IsMadeFor options problem) (sym c.with_bound.ensures)
    (made_with options problem made.patch made.out made.report c.in-Ok.bound c.requires.made c.requires.asked c.in-Ok.ensures.bound)
