-- The rules of each command.
use Rattle.std.specs.Prelude.{◌≤◌}
use Rattle.eco_gen.specs.Instance.{CanDraw}
use Rattle.eco_words.specs.declared.answer.Invocation.{Invocation}
use Rattle.eco_words.specs.declared.answer.Invocation.TheVariants as invocation
use Rattle.eco_words.specs.CommandLine.{Command, audit_options_of, gen_options_of, locate_options_of, options_of, prove_options_of}
use Rattle.eco_words.specs.CommandLine.Command.{synth, audit, prove, recheck, gen, locate}
use Rattle.eco_cli.specs.Audit.{audit_rules}
use Rattle.eco_cli.specs.Gen.{gen_rules}
use Rattle.eco_cli.specs.Locate.{locate_rules}
use Rattle.eco_cli.specs.Prove.{prove_rules}
use Rattle.eco_cli.specs.Recheck.{recheck_rules}
use Rattle.eco_cli.specs.Rules.{Rules}
use Rattle.eco_cli.specs.Synth.{synth_rules}

abbrev pub rules_of : Command → Rules
rules_of (synth options) = synth_rules options
rules_of (audit options) = audit_rules options
rules_of (prove options) = prove_rules options
rules_of (recheck options) = recheck_rules options
rules_of (gen options) = gen_rules options
rules_of (locate options) = locate_rules options

-- the numbers of a command let it run: a budget is at least 1, and a problem can be drawn for those of `gen`
abbrev pub HasNumbers : Invocation → Type 0
HasNumbers (invocation.Synth given) = 1 ≤ (options_of given).budget
HasNumbers (invocation.Audit given) = 1 ≤ (audit_options_of given).budget
HasNumbers (invocation.Prove given) = 1 ≤ (prove_options_of given).budget
HasNumbers (invocation.Recheck given) = Unit {0}
HasNumbers (invocation.Gen given) =
    (1 ≤ (gen_options_of given).budget) × CanDraw (gen_options_of given).size (gen_options_of given).targets
HasNumbers (invocation.Locate given) = 1 ≤ (locate_options_of given).budget
