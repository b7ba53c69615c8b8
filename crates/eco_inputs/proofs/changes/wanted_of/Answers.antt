use Rattle.std.proofs.Common.{refl, rules}
use Rattle.eco_words.specs.CommandLine.{change_options_of}
use Rattle.eco_inputs.specs.declared.TheConstants.{MOST_BYTES}
use Rattle.eco_inputs.specs.declared.error.InputError.TheVariants.{InNetlist}
use Rattle.eco_inputs.specs.declared.paths.FileOption.TheVariants.{Specification}
use Rattle.eco_inputs.specs.Changes.{long_change, wanted_row}
use Rattle.eco_inputs.specs.Reading.{oversize_of}
use Rattle.eco_inputs.proofs.ReadingLaws.{named_halts}
use Rattle.eco_inputs.proofs.changes.wanted_of.Goals as goal

pub returns-in-Err-clause-err : goal.returns-in-Err-clause-err
returns-in-Err-clause-err g c =
    let options = change_options_of c.args.files.now in
    named_halts (long_change options) (oversize_of options.specification MOST_BYTES) (InNetlist Specification) (wanted_row options) _ _ (λ own. refl)
    c.in-Err.halt c.in-Err.ensures.err c.map.result (c.map.ensures (InNetlist Specification) (λ own made e. search rules))
