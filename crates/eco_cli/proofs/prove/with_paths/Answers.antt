use Rattle.std.proofs.Common.{refl, rules}
use Rattle.eco_words.specs.CommandLine.{prove_options_of}
use Rattle.eco_inputs.specs.declared.TheConstants.{MOST_BYTES}
use Rattle.eco_cli.specs.declared.prove.ProveFile.TheVariants.{Left}
use Rattle.eco_cli.specs.declared.prove.ProveStop.TheVariants.{InNetlist}
use Rattle.eco_cli.specs.Prove.{AreSides, from_left, long_side, side_row}
use Rattle.eco_inputs.specs.Reading.{oversize_of}
use Rattle.eco_inputs.specs.Rows.{named_row}
use Rattle.eco_inputs.proofs.ReadingLaws.{first_halts, later_ends, passed_as}
use Rattle.eco_cli.proofs.prove.with_paths.Goals as goal

pub returns-in-Ok-clause-ends : goal.returns-in-Ok-clause-ends
returns-in-Ok-clause-ends g c =
    later_ends (long_side (prove_options_of c.args.command.now))
    (named_row (InNetlist Left) (side_row (prove_options_of c.args.command.now) Left))
    (from_left (prove_options_of c.args.command.now)) AreSides _ _ _ c.in-Ok.left c.in-Ok.ensures.keeps
    (passed_as (InNetlist Left) (side_row (prove_options_of c.args.command.now) Left) _ _ c.in-Ok.left c.in-Ok.ensures.ok) c.with_left.result c.with_left.ensures.ends

pub returns-in-Err-clause-ends : goal.returns-in-Err-clause-ends
returns-in-Err-clause-ends g c =
    let options = prove_options_of c.args.command.now in
    first_halts (long_side options) (oversize_of options.left MOST_BYTES) (InNetlist Left) (side_row options Left) (from_left options) _ _ (λ own. refl)
    c.in-Err.halt c.in-Err.ensures.err c.map.result (c.map.ensures (InNetlist Left) (λ own made e. search rules))
