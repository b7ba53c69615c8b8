-- The numbers that the words give let their command run.
use Rattle.std.proofs.Common.{ℕ, ◌≤◌, List, Option, Some, None, arith}
use Rattle.eco_gen.specs.Instance.{CanDraw}
use Rattle.eco_words.specs.declared.answer.Invocation.{Invocation}
use Rattle.eco_words.specs.declared.answer.Invocation.TheVariants as invocation
use Rattle.eco_words.specs.declared.answer.NumberOption.TheVariants.{Size, Targets}
use Rattle.eco_words.specs.CommandLine.{GenOptions, GivesBudget, GivesWanted, IsCommand, IsGen, audit_options_of, gen_options_of, locate_options_of, options_of, prove_options_of}
use Rattle.eco_words.specs.declared.TheConstants.{MOST_SIZE, MOST_TARGETS}
use Rattle.eco_cli.specs.Commands.{HasNumbers}

some_given : (given : Option (List ℕ)) (number : ℕ) → GivesBudget given number → 1 ≤ number
some_given None number is = omega arith
some_given (Some text) number is = is.1

size_given : (given : Option (List ℕ)) (number : ℕ) → GivesWanted Size given number → (1 ≤ number) × (number ≤ MOST_SIZE)
size_given None number is = absurd is
size_given (Some text) number is = (is.1, is.0.spelled.limit)

targets_given : (given : Option (List ℕ)) (number : ℕ) → GivesWanted Targets given number → (1 ≤ number) × (number ≤ MOST_TARGETS)
targets_given None number is = absurd is
targets_given (Some text) number is = (is.1, is.0.spelled.limit)

can_draw : (words : List (List ℕ)) (options : GenOptions) → IsGen words options → CanDraw options.size options.targets
can_draw words options is =
    let size = size_given _ options.size is.given.size in
    let targets = targets_given _ options.targets is.given.targets in
    record { some_gates = size.0; few_gates = size.1; some_targets = targets.0; few_targets = targets.1; room = is.given.room }

pub some_numbers : (words : List (List ℕ)) (read : Invocation) → IsCommand words read → HasNumbers read
some_numbers words (invocation.Synth given) is = some_given _ (options_of given).budget is.budgeted
some_numbers words (invocation.Audit given) is = some_given _ (audit_options_of given).budget is.budgeted
some_numbers words (invocation.Prove given) is = some_given _ (prove_options_of given).budget is.budgeted
some_numbers words (invocation.Recheck given) is = tt
some_numbers words (invocation.Locate given) is = some_given _ (locate_options_of given).budget is.budgeted
some_numbers words (invocation.Gen given) is = (some_given _ (gen_options_of given).budget is.budgeted, can_draw words (gen_options_of given) is)
