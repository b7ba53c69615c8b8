use Rattle.std.proofs.Common.{refl, rules}
use Rattle.eco_words.specs.CommandLine.{problem_options_of}
use Rattle.eco_inputs.specs.declared.TheConstants.{MOST_BYTES}
use Rattle.eco_inputs.specs.declared.error.InputError.TheVariants.{InNetlist}
use Rattle.eco_inputs.specs.declared.paths.FileOption.TheVariants.{Implementation}
use Rattle.eco_inputs.specs.Inputs.{implementation_row, long_input}
use Rattle.eco_inputs.specs.Reading.{oversize_of}
use Rattle.eco_netlist.specs.declared.draft.TargetRule.TheVariants.{Allowed}
use Rattle.eco_inputs.proofs.FewNets.{few_nets}
use Rattle.eco_inputs.proofs.ReadingLaws.{named_halts}
use Rattle.eco_inputs.proofs.inputs.implementation_of.Goals as goal

pub returns-in-Err-clause-err : goal.returns-in-Err-clause-err
returns-in-Err-clause-err g c =
    let options = problem_options_of c.args.files.now in
    named_halts (long_input options) (oversize_of options.implementation MOST_BYTES) (InNetlist Implementation) (implementation_row options) _ _ (λ own. refl)
    c.in-Err.halt c.in-Err.ensures.err c.map.result (c.map.ensures (InNetlist Implementation) (λ own made e. search rules))

pub returns-in-Ok-clause-few_nets : goal.returns-in-Ok-clause-few_nets
returns-in-Ok-clause-few_nets g c =
    few_nets Allowed _ (problem_options_of c.args.files.now).implementation c.in-Ok.implementation c.in-Ok.ensures.ok.passed
