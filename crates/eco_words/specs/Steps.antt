-- What the steps of the reading of the words find.
use Rattle.std.specs.Prelude.{◌≡◌, ◌≢◌, ◌⊎◌, Option, Some, Result, Ok, Err, List, [], ◌∷◌, cond, codes, option_map, unwrap_or, IsSome}
use Rattle.std.specs.Option.{option_map_or}
use Rattle.std.specs.Str.{bytes_eq}
use Rattle.clap.specs.Words.{Row, Text, matched_of, raw_values}
use Rattle.clap.specs.declared.parser.matches.Found.{Found}
use Rattle.clap.specs.declared.error.kind.ErrorKind.{ErrorKind}
use Rattle.clap.specs.declared.error.kind.ErrorKind.TheVariants as kind
use Rattle.eco_words.specs.CommandLine.{AuditOptions, GenOptions, GivesAuditPaths, GivesBudget, GivesChange, GivesDrawn, GivesFlag, GivesLeast, GivesPaths, GivesProblem, GivesProvePaths, GivesRecheckPaths, IsFirstWrong, IsWrong, LocateOptions, ProveOptions, SynthOptions, audit_options_of, gen_options_of, locate_options_of, name_given, numbers_of, options_of, prove_options_of, recheck_options_of, value_given, values_given}
use Rattle.eco_words.specs.EcoCommand.{subcommands}
use Rattle.eco_words.specs.declared.answer.Invocation.{Invocation}
use Rattle.eco_words.specs.declared.answer.Invocation.TheVariants as invocation
use Rattle.eco_words.specs.declared.answer.NumberOption.{NumberOption}
use Rattle.eco_words.specs.declared.answer.WordsError.{WordsError}
use Rattle.eco_words.specs.declared.answer.WordsError.TheVariants as error

-- ---- the options that have to be given

-- those of a problem's files
abbrev pub problem_required : List Text
problem_required = codes "impl" ∷ codes "spec" ∷ codes "weight" ∷ []

abbrev pub synth_required : List Text
synth_required = codes "impl" ∷ codes "spec" ∷ codes "weight" ∷ codes "patch" ∷ codes "out" ∷ []

abbrev pub audit_required : List Text
audit_required = codes "impl" ∷ codes "spec" ∷ codes "weight" ∷ codes "patch" ∷ codes "out" ∷ codes "report" ∷ []

abbrev pub prove_required : List Text
prove_required = codes "left" ∷ codes "right" ∷ codes "cnf" ∷ codes "trace" ∷ []

abbrev pub recheck_required : List Text
recheck_required = codes "cnf" ∷ codes "trace" ∷ []

abbrev pub gen_required : List Text
gen_required = codes "seed" ∷ codes "size" ∷ codes "targets" ∷ []

-- those of a change's files
abbrev pub change_required : List Text
change_required = codes "impl" ∷ codes "spec" ∷ []

abbrev pub locate_required : List Text
locate_required = codes "impl" ∷ codes "spec" ∷ codes "cut" ∷ []

-- those of the subcommand of this name
abbrev pub required_of : Text → List Text
required_of name =
    cond (bytes_eq name (codes "synth")) synth_required
    (cond (bytes_eq name (codes "audit")) audit_required
    (cond (bytes_eq name (codes "prove")) prove_required
    (cond (bytes_eq name (codes "recheck")) recheck_required
    (cond (bytes_eq name (codes "gen")) gen_required
    (cond (bytes_eq name (codes "locate")) locate_required [])))))

-- each of these options has a value
abbrev pub AllHaveValues : (Text → Option Text) → List Text → Type 0
AllHaveValues value [] = Unit {0}
AllHaveValues value (name ∷ names) = IsSome (value name) × AllHaveValues value names

-- the name is one of these
abbrev pub IsNamed : List Text → Text → Type 0
IsNamed [] name = ⊥
IsNamed (x ∷ xs) name = (name ≡ x) ⊎ IsNamed xs name

-- a known subcommand was entered, and each option that it wants has a value
pub record IsEntered (entered : Option (Text × List Row)) : Type 0 where
  pub name : Text
  pub is : name_given entered ≡ Some name
  pub known : IsNamed subcommands name
  pub values : AllHaveValues (value_given entered) (required_of name)

-- the subcommand of this name was entered, with these first values and all these values, and each option that it wants has one
pub record IsOpened (entered : Option (Text × List Row)) (name : Text) (value : Text → Option Text) (all : Text → List Text) : Type 0 where
  pub is : name_given entered ≡ Some name
  pub same : value_given entered ≡ value
  pub same_all : values_given entered ≡ all
  pub wanted : AllHaveValues value (required_of name)

-- all values of an option among the matches, in order
abbrev pub all_values : Found → Text → List Text
all_values found name = unwrap_or (option_map raw_values (matched_of found name)) []

-- ---- what is answered

-- these are the options of `synth`, where `value` gives an option's value
pub record AreGiven (value : Text → Option Text) (options : SynthOptions) : Type 0 where
  pub problem : GivesProblem value options.problem
  pub paths : GivesPaths value options
  pub budget : GivesBudget (value (codes "budget")) options.budget
  pub bound : GivesFlag (value (codes "bound")) options.bound
  pub least : GivesLeast (value (codes "least")) options.least

-- these are the options of `audit`
pub record AreAuditGiven (value : Text → Option Text) (options : AuditOptions) : Type 0 where
  pub problem : GivesProblem value options.problem
  pub paths : GivesAuditPaths value options
  pub budget : GivesBudget (value (codes "budget")) options.budget

-- these are the options of `prove`
pub record AreProveGiven (value : Text → Option Text) (options : ProveOptions) : Type 0 where
  pub paths : GivesProvePaths value options
  pub budget : GivesBudget (value (codes "budget")) options.budget

-- these are the options of `gen`
pub record AreGenGiven (value : Text → Option Text) (options : GenOptions) : Type 0 where
  pub numbers : GivesDrawn value options
  pub budget : GivesBudget (value (codes "budget")) options.budget

-- these are the options of `locate`, where `all` gives all values of an option
pub record AreLocateGiven (value : Text → Option Text) (all : Text → List Text) (options : LocateOptions) : Type 0 where
  pub change : GivesChange value options.change
  pub nets : options.nets ≡ all (codes "net")
  pub cut : value (codes "cut") ≡ Some options.cut
  pub budget : GivesBudget (value (codes "budget")) options.budget

-- the command of this name, with these options
abbrev pub HasValues : Text → (Text → Option Text) → (Text → List Text) → Invocation → Type 0
HasValues name value all (invocation.Synth given) = (name ≡ codes "synth") × AreGiven value (options_of given)
HasValues name value all (invocation.Audit given) = (name ≡ codes "audit") × AreAuditGiven value (audit_options_of given)
HasValues name value all (invocation.Prove given) = (name ≡ codes "prove") × AreProveGiven value (prove_options_of given)
HasValues name value all (invocation.Recheck given) = (name ≡ codes "recheck") × GivesRecheckPaths value (recheck_options_of given)
HasValues name value all (invocation.Gen given) = (name ≡ codes "gen") × AreGenGiven value (gen_options_of given)
HasValues name value all (invocation.Locate given) = (name ≡ codes "locate") × AreLocateGiven value all (locate_options_of given)

-- an option's value is wrong; or memory ran out
abbrev pub IsMisread : (NumberOption → Type 0) → WordsError → Type 0
IsMisread Wrong (error.Help text) = ⊥
IsMisread Wrong (error.Faulty text) = ⊥
IsMisread Wrong (error.Number option) = Wrong option
IsMisread Wrong error.OutOfMemory = Unit {0}

-- what was read, or that an option's value is wrong
abbrev pub numbered : Result Invocation NumberOption → Result Invocation WordsError
numbered (Ok invocation) = Ok invocation
numbered (Err option) = Err (error.Number option)

-- the subcommand that was entered is this command
pub record IsTaken (entered : Option (Text × List Row)) (command : Invocation) : Type 0 where
  pub name : Text
  pub is : name_given entered ≡ Some name
  pub has : HasValues name (value_given entered) (values_given entered) command

-- of its options this one is the first that is wrong
abbrev pub IsMisvalued : Option (Text × List Row) → NumberOption → Type 0
IsMisvalued entered option = IsFirstWrong (value_given entered) (option_map_or numbers_of (name_given entered) []) option

-- it is this option, and it is wrong
abbrev pub IsTheWrong : (Text → Option Text) → NumberOption → NumberOption → Type 0
IsTheWrong value this option = (option ≡ this) × IsWrong value this

-- the kinds by which a parse answers with help or the version
abbrev pub IsRequest : ErrorKind → Type 0
IsRequest k = (k ≡ kind.DisplayHelp) ⊎ (k ≡ kind.DisplayVersion)

-- an error of this kind comes to this answer
abbrev pub IsAnswerTo : ErrorKind → WordsError → Type 0
IsAnswerTo k (error.Help text) = IsRequest k
IsAnswerTo k (error.Faulty text) = (IsRequest k → ⊥) × (k ≢ kind.OutOfMemory)
IsAnswerTo k (error.Number option) = ⊥
IsAnswerTo k error.OutOfMemory = Unit {0}
