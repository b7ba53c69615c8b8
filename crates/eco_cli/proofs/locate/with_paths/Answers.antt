use Rattle.std.proofs.Common.{refl, rules}
use Rattle.eco_words.specs.CommandLine.{locate_options_of}
use Rattle.eco_cli.specs.declared.locate.LocateStop.TheVariants.{NoChange}
use Rattle.eco_inputs.specs.Changes.{IsChangeOf, change_rows, long_change}
use Rattle.eco_inputs.specs.Rows.{named_row}
use Rattle.eco_cli.specs.Locate.{from_change, long_locate}
use Rattle.eco_inputs.proofs.ReadingLaws.{first_halts, later_ends, passed_as}
use Rattle.eco_cli.proofs.locate.with_paths.Goals as goal

pub returns-in-Ok-clause-ends : goal.returns-in-Ok-clause-ends
returns-in-Ok-clause-ends g c =
    let options = locate_options_of c.args.command.now in
    later_ends (long_locate options) (named_row NoChange (change_rows options.change)) from_change IsChangeOf _ _ _ c.in-Ok.inputs
    c.in-Ok.ensures.keeps (passed_as NoChange (change_rows options.change) _ _ c.in-Ok.inputs c.in-Ok.ensures.ok) c.with_inputs.result (c.with_inputs.ensures _)

pub returns-in-Err-clause-ends : goal.returns-in-Err-clause-ends
returns-in-Err-clause-ends g c =
    let options = locate_options_of c.args.command.now in
    first_halts (long_locate options) (long_change options.change) NoChange (change_rows options.change) from_change _ _ (λ own. refl)
    c.in-Err.halt c.in-Err.ensures.err c.map.result (c.map.ensures NoChange (λ own made e. search rules))
