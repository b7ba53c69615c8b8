use Rattle.std.proofs.Common.{refl, subst}
use Rattle.eco_words.specs.CommandLine.{locate_options_of}
use Rattle.eco_cli.specs.declared.locate.LocateStop.TheVariants.{SamePath}
use Rattle.eco_inputs.specs.Rows.{named_row}
use Rattle.eco_cli.specs.Locate.{from_change_paths, locate_files_of, long_locate}
use Rattle.eco_inputs.specs.Changes.{IsChangeOf}
use Rattle.eco_inputs.specs.Paths.{ArePathsApart, paths_row}
use Rattle.eco_inputs.proofs.ReadingLaws.{later_ends, kept_reads}
use Rattle.eco_cli.proofs.locate.change_at.Goals as goal

pub returns-in-Ok-clause-ends : goal.returns-in-Ok-clause-ends
returns-in-Ok-clause-ends g c =
    later_ends (long_locate (locate_options_of c.args.command.now)) (named_row SamePath (paths_row (locate_files_of (locate_options_of c.args.command.now)))) (λ _. from_change_paths (locate_options_of c.args.command.now)) IsChangeOf
    _ _ _ tt (kept_reads _) (record { passed = (subst ArePathsApart c.files_of.ensures c.in-Ok.ensures, refl); no_fault = λ files is. refl }) c.with_paths.result c.with_paths.ensures.ends
