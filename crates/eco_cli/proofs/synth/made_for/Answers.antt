use Rattle.eco_words.specs.CommandLine.{options_of}
use Rattle.eco_cli.proofs.BoundLaws.{one_target}
use Rattle.eco_cli.proofs.synth.made_for.Goals as goal

pub with_bound-requires-clause-single : goal.with_bound-requires-clause-single
with_bound-requires-clause-single g c = one_target (options_of c.args.command.now) c.args.problem.now c.requires.single c.if-command.true
