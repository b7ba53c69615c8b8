use Rattle.std.proofs.Common.{refl, rules}
use Rattle.eco_words.specs.CommandLine.{audit_options_of}
use Rattle.eco_inputs.specs.Inputs.{input_rows, long_input}
use Rattle.eco_cli.specs.declared.audit.AuditStop.TheVariants.{NoProblem}
use Rattle.eco_cli.specs.Audit.{long_audit}
use Rattle.eco_inputs.proofs.ReadingLaws.{named_halts}
use Rattle.eco_cli.proofs.audit.problem_inputs.Goals as goal

pub returns-in-Err-clause-err : goal.returns-in-Err-clause-err
returns-in-Err-clause-err g c =
    let options = audit_options_of c.args.command.now in
    named_halts (long_audit options) (long_input options.problem) NoProblem (input_rows options.problem) _ _ (λ own. refl)
    c.in-Err.halt c.in-Err.ensures.err c.map.result (c.map.ensures NoProblem (λ own made e. search rules))
