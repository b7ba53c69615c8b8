use Rattle.std.proofs.Common.{refl, subst}
use Rattle.eco_words.specs.CommandLine.{prove_options_of}
use Rattle.eco_cli.specs.declared.prove.ProveStop.TheVariants.{SamePath}
use Rattle.eco_inputs.specs.Paths.{ArePathsApart, paths_row}
use Rattle.eco_cli.specs.Prove.{AreSides, from_netlists, long_side, prove_files_of}
use Rattle.eco_inputs.specs.Rows.{named_row}
use Rattle.eco_inputs.proofs.ReadingLaws.{later_ends, kept_reads}
use Rattle.eco_cli.proofs.prove.sides_of.Goals as goal

pub returns-in-Ok-clause-ends : goal.returns-in-Ok-clause-ends
returns-in-Ok-clause-ends g c =
    later_ends (long_side (prove_options_of c.args.command.now)) (named_row SamePath (paths_row (prove_files_of (prove_options_of c.args.command.now)))) (λ _. from_netlists (prove_options_of c.args.command.now)) AreSides
    _ _ _ tt (kept_reads _) (record { passed = (subst ArePathsApart c.files_of.ensures c.in-Ok.ensures, refl); no_fault = λ files is. refl }) c.with_paths.result c.with_paths.ensures.ends
