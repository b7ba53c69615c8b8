use Rattle.std.proofs.Common.{refl, rules}
use Rattle.eco_words.specs.CommandLine.{prove_options_of}
use Rattle.eco_inputs.specs.declared.TheConstants.{MOST_BYTES}
use Rattle.eco_cli.specs.declared.prove.ProveFile.TheVariants.{Right}
use Rattle.eco_cli.specs.declared.prove.ProveStop.TheVariants.{InNetlist, PortsDiffer}
use Rattle.eco_cli.specs.Prove.{AreSides, long_side, ports_row, side_row}
use Rattle.eco_inputs.specs.Reading.{oversize_of}
use Rattle.eco_inputs.specs.Rows.{named_row}
use Rattle.eco_inputs.proofs.ReadingLaws.{first_halts, later_ends, passed_as}
use Rattle.eco_cli.proofs.prove.with_left.Goals as goal

pub returns-in-Ok-clause-ends : goal.returns-in-Ok-clause-ends
returns-in-Ok-clause-ends g c =
    later_ends (long_side (prove_options_of c.args.command.now))
    (named_row (InNetlist Right) (side_row (prove_options_of c.args.command.now) Right))
    (λ right. named_row PortsDiffer (ports_row c.args.left right)) AreSides _ _ _ c.in-Ok.right c.in-Ok.ensures.keeps
    (passed_as (InNetlist Right) (side_row (prove_options_of c.args.command.now) Right) _ _ c.in-Ok.right c.in-Ok.ensures.ok) c.matched.result (c.matched.ensures.ends (prove_options_of c.args.command.now) _)

pub returns-in-Err-clause-ends : goal.returns-in-Err-clause-ends
returns-in-Err-clause-ends g c =
    let options = prove_options_of c.args.command.now in
    first_halts (long_side options) (oversize_of options.right MOST_BYTES) (InNetlist Right) (side_row options Right) (λ right. named_row PortsDiffer (ports_row c.args.left right)) _ _ (λ own. refl)
    c.in-Err.halt c.in-Err.ensures.err c.map.result (c.map.ensures (InNetlist Right) (λ own made e. search rules))
