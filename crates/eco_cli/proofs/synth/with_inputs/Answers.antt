use Rattle.std.proofs.Common.{refl, rules, subst, sym}
use Rattle.eco_words.specs.CommandLine.{options_of}
use Rattle.eco_cli.specs.declared.synth.SynthStop.TheVariants.{NoProblem}
use Rattle.eco_inputs.specs.Inputs.{IsProblemOf, pair_row, long_input}
use Rattle.eco_inputs.specs.Rows.{named_row}
use Rattle.eco_cli.specs.Synth.{long_file, bound_row}
use Rattle.eco_inputs.proofs.ReadingLaws.{first_halts, kept_reads, later_ends}
use Rattle.eco_cli.proofs.synth.with_inputs.Goals as goal

pub returns-in-Ok : goal.returns-in-Ok
returns-in-Ok c = λ store.
    let options = options_of c.args.command.now in
    let (value, passed, is) = c.in-Ok.ensures store in
    later_ends (long_file options) (named_row NoProblem (pair_row options.problem c.args.inputs)) (bound_row options) IsProblemOf store store store
    c.in-Ok.problem (kept_reads store)
    (record { passed = subst ((pair_row options.problem c.args.inputs).passes store.files) (sym is) passed; no_fault = λ files told. refl })
    c.bounded.result (c.bounded.ensures store)

pub returns-in-Err : goal.returns-in-Err
returns-in-Err c = λ store.
    let options = options_of c.args.command.now in
    first_halts (long_file options) (long_input options.problem) NoProblem (pair_row options.problem c.args.inputs) (bound_row options) store store
    (λ own. refl) c.in-Err.halt (c.in-Err.ensures store) c.map.result (c.map.ensures NoProblem (λ own made e. search rules))
