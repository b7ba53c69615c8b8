use Rattle.std.proofs.Common.{map}
use Rattle.std.specs.String.{string_bytes}
use Rattle.clap.specs.Words.{app_of, is_simple_and_free, fault_of}
use Rattle.eco_words.proofs.CommandLineLemmas.{failed_cause, matched_commands, matched_entered, matched_wrongs}
use Rattle.eco_words.proofs.reading.parsed.Goals as goal

pub invocation-requires : goal.invocation-requires
invocation-requires c =
    matched_entered (app_of c.in_ok-command.command) c.in_ok-command.ensures (map string_bytes c.args.words.now) c.requires c.in-Ok.matches
    c.in-Ok.ensures.matches c.in-Ok.ensures.kinds

pub returns-in-Ok-clause-command : goal.returns-in-Ok-clause-command
returns-in-Ok-clause-command c =
    matched_commands (app_of c.in_ok-command.command) c.in_ok-command.ensures (map string_bytes c.args.words.now) c.requires c.in-Ok.matches c.invocation.result
    c.in-Ok.ensures.matches c.in-Ok.ensures.kinds c.invocation.ensures.ok

pub returns-in-Ok-clause-cause : goal.returns-in-Ok-clause-cause
returns-in-Ok-clause-cause c =
    matched_wrongs (app_of c.in_ok-command.command) c.in_ok-command.ensures (map string_bytes c.args.words.now) c.requires c.in-Ok.matches c.invocation.result
    c.in-Ok.ensures.matches c.in-Ok.ensures.kinds c.invocation.ensures.err

pub returns-in_ok-refusal-in-Err-clause-cause : goal.returns-in_ok-refusal-in-Err-clause-cause
returns-in_ok-refusal-in-Err-clause-cause c =
    failed_cause (app_of c.in_ok-command.command) c.in_ok-command.ensures (map string_bytes c.args.words.now) c.requires c.in-Err.error _
    c.in-Err.ensures.kinds c.in_ok-refusal-in-Err.ensures
