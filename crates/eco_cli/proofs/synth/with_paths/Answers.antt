use Rattle.std.proofs.Common.{refl, rules}
use Rattle.eco_words.specs.CommandLine.{options_of}
use Rattle.eco_cli.specs.declared.synth.SynthStop.TheVariants.{NoProblem}
use Rattle.eco_inputs.specs.Inputs.{IsProblemOf, input_rows, long_input}
use Rattle.eco_inputs.specs.Rows.{named_row}
use Rattle.eco_cli.specs.Synth.{long_file, from_inputs}
use Rattle.eco_inputs.proofs.ReadingLaws.{first_halts, later_ends, passed_as}
use Rattle.eco_cli.proofs.synth.with_paths.Goals as goal

pub returns-in-Ok-clause-ends : goal.returns-in-Ok-clause-ends
returns-in-Ok-clause-ends g c =
    later_ends (long_file (options_of c.args.command.now)) (named_row NoProblem (input_rows (options_of c.args.command.now).problem))
    (from_inputs (options_of c.args.command.now)) IsProblemOf _ _ _ c.in-Ok.inputs
    c.in-Ok.ensures.keeps (passed_as NoProblem (input_rows (options_of c.args.command.now).problem) _ _ c.in-Ok.inputs c.in-Ok.ensures.ok) c.with_inputs.result (c.with_inputs.ensures _)

pub returns-in-Err-clause-ends : goal.returns-in-Err-clause-ends
returns-in-Err-clause-ends g c =
    let options = options_of c.args.command.now in
    first_halts (long_file options) (long_input options.problem) NoProblem (input_rows options.problem) (from_inputs options) _ _ (λ own. refl)
    c.in-Err.halt c.in-Err.ensures.err c.map.result (c.map.ensures NoProblem (λ own made e. search rules))
