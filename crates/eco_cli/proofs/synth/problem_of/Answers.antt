use Rattle.std.proofs.Common.{refl, subst}
use Rattle.eco_words.specs.CommandLine.{options_of}
use Rattle.eco_cli.specs.declared.synth.SynthStop.TheVariants.{SamePath}
use Rattle.eco_inputs.specs.Rows.{named_row}
use Rattle.eco_cli.specs.Synth.{long_file, files_of, from_paths}
use Rattle.eco_inputs.specs.Inputs.{IsProblemOf}
use Rattle.eco_inputs.specs.Paths.{ArePathsApart, paths_row}
use Rattle.eco_inputs.proofs.ReadingLaws.{later_ends, kept_reads}
use Rattle.eco_cli.proofs.synth.problem_of.Goals as goal

pub returns-in-Ok-clause-ends : goal.returns-in-Ok-clause-ends
returns-in-Ok-clause-ends g c =
    later_ends (long_file (options_of c.args.command.now)) (named_row SamePath (paths_row (files_of (options_of c.args.command.now)))) (λ _. from_paths (options_of c.args.command.now)) IsProblemOf
    _ _ _ tt (kept_reads _) (record { passed = (subst ArePathsApart c.files_of.ensures c.in-Ok.ensures, refl); no_fault = λ files is. refl }) c.with_paths.result c.with_paths.ensures.ends
