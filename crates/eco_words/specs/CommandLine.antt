-- What the words of a command line are: a command, a request for help or the version, faulty, or a command with a number that is none.
-- The first word is the program's own name.
use Rattle.std.specs.Prelude.{◌≡◌, ◌≢◌, ◌⊎◌, ◌↔◌, ◌&&◌, if◌then◌else◌, ℕ, ◌≤◌, Bool, false, List, [], ◌∷◌, length, cond, IsTrue, Option, Some, None, codes}
use Rattle.std.specs.Prelude.{map, option_and_then, option_copied, option_map, unwrap_or}
use Rattle.std.specs.List.{list_any}
use Rattle.std.specs.Option.{option_map_or}
use Rattle.std.specs.Str.{bytes_eq}
use Rattle.clap.specs.Words.{Kinds, Row, Text, all_of, fault_of, first_of, subcommand_of}
use Rattle.clap.specs.declared.error.kind.ErrorKind.TheVariants as kind
use Rattle.eco_text.specs.Digits.{IsSpelled}
use Rattle.eco_words.specs.EcoCommand.{eco_app, subcommands}
use Rattle.eco_words.specs.declared.TheConstants.{MOST_BUDGET, MOST_LEAST, MOST_SEED, MOST_SIZE, MOST_TARGETS, MOST_WEIGHT}
use Rattle.eco_words.specs.declared.answer.NumberOption.{NumberOption}
use Rattle.eco_words.specs.declared.answer.NumberOption.TheVariants.{Budget, InputWeight, Least, Seed, Size, Targets}
use Rattle.eco_words.specs.declared.answer.ProblemFiles.{ProblemFiles}
use Rattle.eco_words.specs.declared.answer.Synth.{Synth}
use Rattle.eco_words.specs.declared.answer.Audit.{Audit}
use Rattle.eco_words.specs.declared.answer.Prove.{Prove}
use Rattle.eco_words.specs.declared.answer.Recheck.{Recheck}
use Rattle.eco_words.specs.declared.answer.Gen.{Gen}
use Rattle.eco_words.specs.declared.answer.ChangeFiles.{ChangeFiles}
use Rattle.eco_words.specs.declared.answer.Locate.{Locate}
use Rattle.eco_words.specs.declared.answer.Invocation.{Invocation}
use Rattle.eco_words.specs.declared.answer.Invocation.TheVariants as invocation
use Rattle.eco_words.specs.declared.answer.WordsError.{WordsError}
use Rattle.eco_words.specs.declared.answer.WordsError.TheVariants as error

-- the word `help` is the first one, alone or with the name of a subcommand and nothing more
abbrev pub is_help_word : List Text → Bool
is_help_word (program ∷ word ∷ []) = bytes_eq word (codes "help")
is_help_word (program ∷ word ∷ name ∷ []) = bytes_eq word (codes "help") && list_any (bytes_eq name) subcommands
is_help_word words = false

-- the kinds of the first error in the words, none where they are a command: by the word `help` they ask for help, and else clap finds them
unfoldable pub errors_in : List Text → Kinds
errors_in words = if is_help_word words then kind.DisplayHelp ∷ [] else fault_of eco_app words

-- the values of the option `--name` among its matches, in order; none if the option isn't given
abbrev pub values_given : Option (Text × List Row) → Text → List Text
values_given entered name = unwrap_or (option_and_then (λ e. all_of name e.1) entered) []

-- the name of a subcommand that was entered
abbrev pub name_given : Option (Text × List Row) → Option Text
name_given entered = option_map (λ e. e.0) entered

-- the first value of the option `--name` among its matches
abbrev pub value_given : Option (Text × List Row) → Text → Option Text
value_given entered name = option_and_then (λ e. first_of name e.1) entered

-- the name of the subcommand that the words enter
unfoldable pub subcommand_in : List Text → Option Text
subcommand_in words = name_given (subcommand_of eco_app words)

-- the value that the words give to the option `--name` of that subcommand
unfoldable pub value_in : List Text → Text → Option Text
value_in words name = value_given (subcommand_of eco_app words) name

-- the values that they give to an option that may be given any number of times, in order
unfoldable pub values_in : List Text → Text → List Text
values_in words name = values_given (subcommand_of eco_app words) name

-- ---- numbers

-- one to twenty decimal digits that spell this number, which is at most so large
pub record IsNumeral (most : ℕ) (text : Text) (number : ℕ) : Type 0 where
  pub spelled : IsSpelled most text number
  pub few : length text ≤ 20

-- the text is this number, and the option by itself may have it
abbrev pub IsNumberFor : NumberOption → Text → ℕ → Type 0
IsNumberFor Budget text number = IsNumeral MOST_BUDGET text number × (1 ≤ number)
IsNumberFor InputWeight text number = IsNumeral MOST_WEIGHT text number
IsNumberFor Seed text number = IsNumeral MOST_SEED text number
IsNumberFor Size text number = IsNumeral MOST_SIZE text number × (1 ≤ number)
IsNumberFor Targets text number = IsNumeral MOST_TARGETS text number × (1 ≤ number)
IsNumberFor Least text number = IsNumeral MOST_LEAST text number × (1 ≤ number)

-- the most learnt clauses for one question, which are 200000 where the option isn't given
abbrev pub GivesBudget : Option Text → ℕ → Type 0
GivesBudget None number = number ≡ 200000
GivesBudget (Some text) number = IsNumberFor Budget text number

-- the weight of an input without a line, which is 1 where the option isn't given
abbrev pub GivesInputWeight : Option Text → ℕ → Type 0
GivesInputWeight None number = number ≡ 1
GivesInputWeight (Some text) number = IsNumberFor InputWeight text number

-- how many questions may be spent on a cheaper base of a target, which are 0 where the option isn't given
abbrev pub GivesQuestions : Option Text → ℕ → Type 0
GivesQuestions None number = number ≡ 0
GivesQuestions (Some text) number = IsNumberFor Least text number

-- the same, None where the option isn't given
abbrev pub GivesLeast : Option Text → Option ℕ → Type 0
GivesLeast None least = least ≡ None
GivesLeast (Some text) None = ⊥
GivesLeast (Some text) (Some number) = IsNumberFor Least text number

-- the number of an option that has to be given
abbrev pub GivesWanted : NumberOption → Option Text → ℕ → Type 0
GivesWanted option None number = ⊥
GivesWanted option (Some text) number = IsNumberFor option text number

-- the number is at most each size that the option of this value comes to
abbrev pub HasRoom : Option Text → ℕ → Type 0
HasRoom sized number = (size : ℕ) → GivesWanted Size sized size → number ≤ size

-- the option comes to this number, where `value` gives an option's value; targets have to be at most the size, where that is a number
abbrev pub GivesNumber : (Text → Option Text) → NumberOption → ℕ → Type 0
GivesNumber value Budget number = GivesBudget (value (codes "budget")) number
GivesNumber value InputWeight number = GivesInputWeight (value (codes "input-weight")) number
GivesNumber value Seed number = GivesWanted Seed (value (codes "seed")) number
GivesNumber value Size number = GivesWanted Size (value (codes "size")) number
GivesNumber value Targets number = GivesWanted Targets (value (codes "targets")) number × HasRoom (value (codes "size")) number
GivesNumber value Least number = GivesQuestions (value (codes "least")) number

-- ---- flags

-- whether the flag is given: its value is `true`
abbrev pub GivesFlag : Option Text → Bool → Type 0
GivesFlag value given = IsTrue given ↔ (value ≡ Some (codes "true"))

-- ---- what the options of each command say

-- the files of a problem, by their paths, and the weight of an input without a line
pub record ProblemOptions : Type 0 where
  pub implementation : Text
  pub specification : Text
  pub weight : Text
  pub care : Option Text
  pub input_weight : ℕ

pub record SynthOptions : Type 0 where
  pub problem : ProblemOptions
  pub patch : Text
  pub out : Text
  pub budget : ℕ
  pub bound : Bool
  pub least : Option ℕ

pub record AuditOptions : Type 0 where
  pub problem : ProblemOptions
  pub patch : Text
  pub out : Text
  pub report : Text
  pub budget : ℕ

pub record ProveOptions : Type 0 where
  pub left : Text
  pub right : Text
  pub cnf : Text
  pub trace : Text
  pub budget : ℕ

pub record RecheckOptions : Type 0 where
  pub cnf : Text
  pub trace : Text

pub record GenOptions : Type 0 where
  pub seed : ℕ
  pub size : ℕ
  pub targets : ℕ
  pub budget : ℕ

-- the files of a change, by their paths
pub record ChangeOptions : Type 0 where
  pub implementation : Text
  pub specification : Text
  pub care : Option Text

pub record LocateOptions : Type 0 where
  pub change : ChangeOptions
  pub nets : List Text
  pub cut : Text
  pub budget : ℕ

-- a command with its options
pub data Command : Type 0 where
  synth : SynthOptions → Command
  audit : AuditOptions → Command
  prove : ProveOptions → Command
  recheck : RecheckOptions → Command
  gen : GenOptions → Command
  locate : LocateOptions → Command

-- which option gives what of a problem, where `value` gives an option's value; only `--care` may give no path
pub record GivesProblem (value : Text → Option Text) (options : ProblemOptions) : Type 0 where
  pub implementation : value (codes "impl") ≡ Some options.implementation
  pub specification : value (codes "spec") ≡ Some options.specification
  pub weight : value (codes "weight") ≡ Some options.weight
  pub care : value (codes "care") ≡ options.care
  pub input_weight : GivesInputWeight (value (codes "input-weight")) options.input_weight

-- which gives which further path of `synth`
pub record GivesPaths (value : Text → Option Text) (options : SynthOptions) : Type 0 where
  pub patch : value (codes "patch") ≡ Some options.patch
  pub out : value (codes "out") ≡ Some options.out

-- which gives which further path of `audit`
pub record GivesAuditPaths (value : Text → Option Text) (options : AuditOptions) : Type 0 where
  pub patch : value (codes "patch") ≡ Some options.patch
  pub out : value (codes "out") ≡ Some options.out
  pub report : value (codes "report") ≡ Some options.report

-- which gives which path of `prove`
pub record GivesProvePaths (value : Text → Option Text) (options : ProveOptions) : Type 0 where
  pub left : value (codes "left") ≡ Some options.left
  pub right : value (codes "right") ≡ Some options.right
  pub cnf : value (codes "cnf") ≡ Some options.cnf
  pub trace : value (codes "trace") ≡ Some options.trace

-- which gives which path of `recheck`
pub record GivesRecheckPaths (value : Text → Option Text) (options : RecheckOptions) : Type 0 where
  pub cnf : value (codes "cnf") ≡ Some options.cnf
  pub trace : value (codes "trace") ≡ Some options.trace

-- which gives which number that a problem is drawn for; there are at most as many targets as gates
pub record GivesDrawn (value : Text → Option Text) (options : GenOptions) : Type 0 where
  pub seed : GivesWanted Seed (value (codes "seed")) options.seed
  pub size : GivesWanted Size (value (codes "size")) options.size
  pub targets : GivesWanted Targets (value (codes "targets")) options.targets
  pub room : options.targets ≤ options.size

-- which gives which path of a change; only `--care` may give none
pub record GivesChange (value : Text → Option Text) (options : ChangeOptions) : Type 0 where
  pub implementation : value (codes "impl") ≡ Some options.implementation
  pub specification : value (codes "spec") ≡ Some options.specification
  pub care : value (codes "care") ≡ options.care

-- the words are the command `synth` with these options
pub record IsSynth (words : List Text) (options : SynthOptions) : Type 0 where
  pub faultless : errors_in words ≡ []
  pub subcommand : subcommand_in words ≡ Some (codes "synth")
  pub problem : GivesProblem (value_in words) options.problem
  pub given : GivesPaths (value_in words) options
  pub budgeted : GivesBudget (value_in words (codes "budget")) options.budget
  pub bounded : GivesFlag (value_in words (codes "bound")) options.bound
  pub least : GivesLeast (value_in words (codes "least")) options.least

-- the words are the command `audit` with these options
pub record IsAudit (words : List Text) (options : AuditOptions) : Type 0 where
  pub faultless : errors_in words ≡ []
  pub subcommand : subcommand_in words ≡ Some (codes "audit")
  pub problem : GivesProblem (value_in words) options.problem
  pub given : GivesAuditPaths (value_in words) options
  pub budgeted : GivesBudget (value_in words (codes "budget")) options.budget

-- the words are the command `prove` with these options
pub record IsProve (words : List Text) (options : ProveOptions) : Type 0 where
  pub faultless : errors_in words ≡ []
  pub subcommand : subcommand_in words ≡ Some (codes "prove")
  pub given : GivesProvePaths (value_in words) options
  pub budgeted : GivesBudget (value_in words (codes "budget")) options.budget

-- the words are the command `recheck` with these options
pub record IsRecheck (words : List Text) (options : RecheckOptions) : Type 0 where
  pub faultless : errors_in words ≡ []
  pub subcommand : subcommand_in words ≡ Some (codes "recheck")
  pub given : GivesRecheckPaths (value_in words) options

-- the words are the command `gen` with these options
pub record IsGen (words : List Text) (options : GenOptions) : Type 0 where
  pub faultless : errors_in words ≡ []
  pub subcommand : subcommand_in words ≡ Some (codes "gen")
  pub given : GivesDrawn (value_in words) options
  pub budgeted : GivesBudget (value_in words (codes "budget")) options.budget

-- the words are the command `locate` with these options
pub record IsLocate (words : List Text) (options : LocateOptions) : Type 0 where
  pub faultless : errors_in words ≡ []
  pub subcommand : subcommand_in words ≡ Some (codes "locate")
  pub change : GivesChange (value_in words) options.change
  pub nets : options.nets ≡ values_in words (codes "net")
  pub cut : value_in words (codes "cut") ≡ Some options.cut
  pub budgeted : GivesBudget (value_in words (codes "budget")) options.budget

-- the words are this command
abbrev pub IsGiven : List Text → Command → Type 0
IsGiven words (synth options) = IsSynth words options
IsGiven words (audit options) = IsAudit words options
IsGiven words (prove options) = IsProve words options
IsGiven words (recheck options) = IsRecheck words options
IsGiven words (gen options) = IsGen words options
IsGiven words (locate options) = IsLocate words options

-- ---- requests, errors, and numbers that are none

-- the words ask for help or for the version, with no error before that (`errors_in`)
unfoldable pub AsksHelp : List Text → Type 0
AsksHelp words = (errors_in words ≡ kind.DisplayHelp ∷ [])
    ⊎ (errors_in words ≡ kind.DisplayVersion ∷ [])

-- the words have an error, and it is no such request
pub record IsMisuse (words : List Text) : Type 0 where
  pub fault : errors_in words ≢ []
  pub no_request : AsksHelp words → ⊥

-- the options of `synth` that are numbers, in order
abbrev pub synth_numbers : List NumberOption
synth_numbers = Budget ∷ InputWeight ∷ Least ∷ []

-- those of `audit`
abbrev pub patch_numbers : List NumberOption
patch_numbers = Budget ∷ InputWeight ∷ []

-- those of `prove` and of `locate`
abbrev pub prove_numbers : List NumberOption
prove_numbers = Budget ∷ []

-- those of `gen`
abbrev pub gen_numbers : List NumberOption
gen_numbers = Seed ∷ Size ∷ Targets ∷ Budget ∷ []

-- those of the subcommand of this name
abbrev pub numbers_of : Text → List NumberOption
numbers_of name =
    cond (bytes_eq name (codes "synth")) synth_numbers
    (cond (bytes_eq name (codes "audit")) patch_numbers
    (cond (bytes_eq name (codes "prove")) prove_numbers
    (cond (bytes_eq name (codes "gen")) gen_numbers
    (cond (bytes_eq name (codes "locate")) prove_numbers []))))

-- what this option is given is no number that it may have, where `value` gives an option's value
abbrev pub IsWrong : (Text → Option Text) → NumberOption → Type 0
IsWrong value option = (number : ℕ) → GivesNumber value option number → ⊥

-- of these options it is the first of which that is so, and those before it come to numbers
abbrev pub IsFirstWrong : (Text → Option Text) → List NumberOption → NumberOption → Type 0
IsFirstWrong value [] option = ⊥
IsFirstWrong value (first ∷ later) option =
    ((option ≡ first) × IsWrong value first)
    ⊎ (((number : ℕ) × GivesNumber value first number) × IsFirstWrong value later option)

-- clap finds no error in the words, but of their subcommand's options this one is the first that is given no number that it may have
pub record IsMisnumbered (words : List Text) (option : NumberOption) : Type 0 where
  pub faultless : errors_in words ≡ []
  pub first : IsFirstWrong (value_in words) (option_map_or numbers_of (subcommand_in words) []) option

-- words are exactly one of the four, and at most one command, or wrong in one option first
pub record IsExactlyOne (words : List Text) : Type 0 where
  pub some : ((command : Command) × IsGiven words command) ⊎ (AsksHelp words ⊎ IsMisuse words ⊎ ((option : NumberOption) × IsMisnumbered words option))
  pub no_command_help : (command : Command) → IsGiven words command → AsksHelp words → ⊥
  pub no_command_fault : (command : Command) → IsGiven words command → IsMisuse words → ⊥
  pub no_help_fault : AsksHelp words → IsMisuse words → ⊥
  pub no_command_number : (command : Command) (option : NumberOption) → IsGiven words command → IsMisnumbered words option → ⊥
  pub no_help_number : (option : NumberOption) → AsksHelp words → IsMisnumbered words option → ⊥
  pub no_fault_number : (option : NumberOption) → IsMisuse words → IsMisnumbered words option → ⊥
  pub one_command : (a b : Command) → IsGiven words a → IsGiven words b → a ≡ b
  pub one_number : (a b : NumberOption) → IsMisnumbered words a → IsMisnumbered words b → a ≡ b

-- ---- what is answered

abbrev pub problem_options_of : ProblemFiles → ProblemOptions
problem_options_of read = record {
  implementation = read.implementation.now;
  specification = read.specification.now;
  weight = read.weight.now;
  care = option_copied read.care;
  input_weight = read.input_weight;
}

abbrev pub options_of : Synth → SynthOptions
options_of read = record {
  problem = problem_options_of read.problem;
  patch = read.patch.now;
  out = read.out.now;
  budget = read.budget;
  bound = read.bound;
  least = read.least;
}

abbrev pub audit_options_of : Audit → AuditOptions
audit_options_of read = record {
  problem = problem_options_of read.problem;
  patch = read.patch.now;
  out = read.out.now;
  report = read.report.now;
  budget = read.budget;
}

abbrev pub prove_options_of : Prove → ProveOptions
prove_options_of read = record {
  left = read.left.now;
  right = read.right.now;
  cnf = read.cnf.now;
  trace = read.trace.now;
  budget = read.budget;
}

abbrev pub recheck_options_of : Recheck → RecheckOptions
recheck_options_of read = record { cnf = read.cnf.now; trace = read.trace.now }

abbrev pub gen_options_of : Gen → GenOptions
gen_options_of read = record { seed = read.seed; size = read.size; targets = read.targets; budget = read.budget }

abbrev pub change_options_of : ChangeFiles → ChangeOptions
change_options_of read = record {
  implementation = read.implementation.now;
  specification = read.specification.now;
  care = option_copied read.care;
}

abbrev pub locate_options_of : Locate → LocateOptions
locate_options_of read = record {
  change = change_options_of read.change;
  nets = map (λ name. name.now) read.nets.items;
  cut = read.cut.now;
  budget = read.budget;
}

-- the words are this command
abbrev pub IsCommand : List Text → Invocation → Type 0
IsCommand words (invocation.Synth given) = IsSynth words (options_of given)
IsCommand words (invocation.Audit given) = IsAudit words (audit_options_of given)
IsCommand words (invocation.Prove given) = IsProve words (prove_options_of given)
IsCommand words (invocation.Recheck given) = IsRecheck words (recheck_options_of given)
IsCommand words (invocation.Gen given) = IsGen words (gen_options_of given)
IsCommand words (invocation.Locate given) = IsLocate words (locate_options_of given)

-- the words are such that no command is answered: want of memory says nothing of them
abbrev pub IsCause : List Text → WordsError → Type 0
IsCause words (error.Help text) = AsksHelp words
IsCause words (error.Faulty text) = IsMisuse words
IsCause words (error.Number option) = IsMisnumbered words option
IsCause words error.OutOfMemory = Unit {0}
