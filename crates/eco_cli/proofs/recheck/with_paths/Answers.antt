use Rattle.std.proofs.Common.{refl, rules}
use Rattle.eco_words.specs.CommandLine.{recheck_options_of}
use Rattle.eco_inputs.specs.declared.TheConstants.{MOST_PROOF_BYTES}
use Rattle.eco_cli.specs.declared.recheck.RecheckStop.TheVariants.{InClauses}
use Rattle.eco_inputs.specs.Reading.{oversize_of}
use Rattle.eco_cli.specs.Recheck.{AreRefuted, clauses_row, from_clauses, long_proof}
use Rattle.eco_inputs.specs.Rows.{named_row}
use Rattle.eco_inputs.proofs.ReadingLaws.{first_halts, later_ends, passed_as}
use Rattle.eco_cli.proofs.recheck.with_paths.Goals as goal

pub returns-in-Ok-clause-ends : goal.returns-in-Ok-clause-ends
returns-in-Ok-clause-ends g c =
    later_ends (long_proof (recheck_options_of c.args.command.now))
    (named_row InClauses (clauses_row (recheck_options_of c.args.command.now)))
    (from_clauses (recheck_options_of c.args.command.now)) AreRefuted _ _ _ c.in-Ok.cnf c.in-Ok.ensures.keeps
    (passed_as InClauses (clauses_row (recheck_options_of c.args.command.now)) _ _ c.in-Ok.cnf c.in-Ok.ensures.ok) c.with_clauses-proved.result c.with_clauses-proved.ensures.ends

pub returns-in-Err-clause-ends : goal.returns-in-Err-clause-ends
returns-in-Err-clause-ends g c =
    let options = recheck_options_of c.args.command.now in
    first_halts (long_proof options) (oversize_of options.cnf MOST_PROOF_BYTES) InClauses (clauses_row options) (from_clauses options) _ _ (λ own. refl)
    c.in-Err.halt c.in-Err.ensures.err c.map.result (c.map.ensures InClauses (λ own made e. search rules))
