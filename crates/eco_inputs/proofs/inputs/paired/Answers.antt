use Rattle.std.proofs.Common.{refl, subst, sym}
use Rattle.eco_words.specs.CommandLine.{problem_options_of}
use Rattle.eco_inputs.specs.Reading.{Halts}
use Rattle.eco_inputs.specs.Inputs.{long_input, pair_row}
use Rattle.eco_inputs.proofs.InputLaws.{pair_halts}
use Rattle.eco_inputs.proofs.inputs.paired.Goals as goal

pub returns-in-Ok : goal.returns-in-Ok
returns-in-Ok c = λ store. (c.in-Ok.problem, (c.in-Ok.ensures.1, c.in-Ok.ensures.0), refl)

pub returns-in-Err : goal.returns-in-Err
returns-in-Err c = λ store.
    subst (Halts (long_input (problem_options_of c.args.files.now)) (pair_row (problem_options_of c.args.files.now) c.args.inputs) store store)
    (sym c.of_pair.ensures)
    (pair_halts (problem_options_of c.args.files.now) c.args.inputs store c.in-Err.error c.in-Err.ensures)
