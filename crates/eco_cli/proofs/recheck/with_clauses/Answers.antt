use Rattle.std.proofs.Common.{refl, rules}
use Rattle.eco_words.specs.CommandLine.{recheck_options_of}
use Rattle.eco_inputs.specs.declared.TheConstants.{MOST_PROOF_BYTES}
use Rattle.eco_cli.specs.declared.recheck.RecheckStop.TheVariants.{Flawed, InSteps}
use Rattle.eco_inputs.specs.Reading.{oversize_of}
use Rattle.eco_cli.specs.Recheck.{AreRefuted, long_proof, proof_row, steps_row}
use Rattle.eco_inputs.specs.Rows.{named_row}
use Rattle.eco_inputs.proofs.ReadingLaws.{first_halts, later_ends, passed_as}
use Rattle.eco_cli.proofs.RecheckStages.{proof_ends}
use Rattle.eco_cli.proofs.recheck.with_clauses.Goals as goal

pub returns-in-Ok-clause-ends : goal.returns-in-Ok-clause-ends
returns-in-Ok-clause-ends g c =
    later_ends (long_proof (recheck_options_of c.args.command.now))
    (named_row InSteps (steps_row (recheck_options_of c.args.command.now)))
    (λ list. named_row Flawed (proof_row c.args.cnf.now list)) AreRefuted _ _ _ c.in-Ok.steps c.in-Ok.ensures.keeps
    (passed_as InSteps (steps_row (recheck_options_of c.args.command.now)) _ _ c.in-Ok.steps c.in-Ok.ensures.ok) c.checked-proved.result
    (proof_ends (recheck_options_of c.args.command.now) c.args.cnf.now c.in-Ok.steps _ c.checked-proved.result c.checked-proved.ensures)

pub returns-in-Err-clause-ends : goal.returns-in-Err-clause-ends
returns-in-Err-clause-ends g c =
    let options = recheck_options_of c.args.command.now in
    first_halts (long_proof options) (oversize_of options.trace MOST_PROOF_BYTES) InSteps (steps_row options) (λ list. named_row Flawed (proof_row c.args.cnf.now list)) _ _ (λ own. refl)
    c.in-Err.halt c.in-Err.ensures.err c.map.result (c.map.ensures InSteps (λ own made e. search rules))
