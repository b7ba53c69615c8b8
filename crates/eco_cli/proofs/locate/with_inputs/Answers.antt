use Rattle.std.proofs.Common.{refl, rules}
use Rattle.eco_words.specs.CommandLine.{locate_options_of}
use Rattle.eco_cli.specs.declared.locate.LocateStop.TheVariants.{NoChange}
use Rattle.eco_inputs.specs.Changes.{fit_row, long_change}
use Rattle.eco_cli.specs.Locate.{long_locate}
use Rattle.eco_inputs.proofs.ReadingLaws.{named_halts}
use Rattle.eco_cli.proofs.locate.with_inputs.Goals as goal

pub returns-in-Ok : goal.returns-in-Ok
returns-in-Ok c = λ store. c.in-Ok.ensures (locate_options_of c.args.command.now).change store

pub returns-in-Err : goal.returns-in-Err
returns-in-Err c = λ store.
    let options = locate_options_of c.args.command.now in
    named_halts (long_locate options) (long_change options.change) NoChange (fit_row c.args.inputs) store store (λ own. refl)
    c.in-Err.halt (c.in-Err.ensures options.change store) c.map.result (c.map.ensures NoChange (λ own made e. search rules))
