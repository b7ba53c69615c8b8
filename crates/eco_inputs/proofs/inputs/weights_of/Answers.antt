use Rattle.std.proofs.Common.{refl, rules}
use Rattle.eco_words.specs.CommandLine.{problem_options_of}
use Rattle.eco_inputs.specs.declared.TheConstants.{MOST_BYTES}
use Rattle.eco_inputs.specs.declared.error.InputError.TheVariants.{InWeights}
use Rattle.eco_inputs.specs.Inputs.{weight_row, long_input}
use Rattle.eco_inputs.specs.Reading.{oversize_of}
use Rattle.eco_inputs.proofs.ReadingLaws.{named_halts}
use Rattle.eco_inputs.proofs.inputs.weights_of.Goals as goal

pub returns-in-Err-clause-err : goal.returns-in-Err-clause-err
returns-in-Err-clause-err g c =
    let options = problem_options_of c.args.files.now in
    named_halts (long_input options) (oversize_of options.weight MOST_BYTES) InWeights (weight_row options) _ _ (λ own. refl)
    c.in-Err.halt c.in-Err.ensures.err c.map.result (c.map.ensures InWeights (λ own made e. search rules))
