use Rattle.std.proofs.Common.{refl, rules}
use Rattle.eco_words.specs.CommandLine.{audit_options_of}
use Rattle.eco_inputs.specs.declared.TheConstants.{MOST_PROOF_BYTES}
use Rattle.eco_inputs.specs.Reading.{oversize_of}
use Rattle.eco_cli.specs.declared.audit.AuditStop.TheVariants.{InReport}
use Rattle.eco_cli.specs.Audit.{long_audit, report_row}
use Rattle.eco_inputs.proofs.ReadingLaws.{named_halts}
use Rattle.eco_cli.proofs.audit.report_of.Goals as goal

pub returns-in-Err-clause-err : goal.returns-in-Err-clause-err
returns-in-Err-clause-err g c =
    let options = audit_options_of c.args.command.now in
    named_halts (long_audit options) (oversize_of options.report MOST_PROOF_BYTES) InReport (report_row options) _ _ (λ own. refl)
    c.in-Err.halt c.in-Err.ensures.err c.map.result (c.map.ensures InReport (λ own made e. search rules))
