-- The words of a command line are exactly one of a command, a request, faulty, and a command whose number is wrong.
use Rattle.std.proofs.Common.{◌≡◌, ◌∙◌, ◌⊎◌, Bool, cond, false, refl, ap, subst, sym, true, inl, inr, ⊎_elim, List, [], ◌∷◌, Option, Result, Ok, Err, IfOk, IfErr}
use Rattle.std.proofs.lemmas.Result.{IfOk-weaker}
use Rattle.std.specs.Option.{option_map_or}
use Rattle.clap.specs.Words.{App, HasKind, HasMatchesOf, IsAmong, Kinds, Row, Text, fault_of, kind_of, subcommand_rows_of, is_simple, is_simple_and_free, subcommand_of}
use Rattle.clap.specs.declared.ArgMatches.{ArgMatches}
use Rattle.clap.specs.declared.Error.{Error}
use Rattle.clap.specs.declared.error.kind.ErrorKind.{ErrorKind}
use Rattle.clap.specs.declared.error.kind.ErrorKind.TheVariants as kind
use Rattle.eco_words.specs.EcoCommand.{eco_app}
use Rattle.eco_words.specs.CommandLine.{AsksHelp, Command, IsCause, IsCommand, IsExactlyOne, IsMisuse, IsGiven, IsMisnumbered, errors_in, is_help_word, numbers_of, subcommand_in, value_in}
use Rattle.eco_words.specs.Steps.{IsAnswerTo, IsEntered, IsMisread, IsMisvalued, IsRequest, IsTaken}
use Rattle.eco_words.specs.declared.answer.NumberOption.{NumberOption}
use Rattle.eco_words.specs.declared.answer.Invocation.{Invocation}
use Rattle.eco_words.specs.declared.answer.WordsError.{WordsError}
use Rattle.eco_words.specs.declared.answer.WordsError.TheVariants as error
use Rattle.eco_words.proofs.LoneFaults.{IsLone, none, one, stray}
use Rattle.eco_words.proofs.Levels.{eco_is_free, eco_is_simple, enters_known, faults-lone}
use Rattle.eco_words.proofs.Commands.{command_given, faultless, given_right, one_command, some_command}
use Rattle.eco_words.proofs.NumberOptions.{never_both, one_first, right_or_first}

-- ---- a request, and an error

request_alone : {ks : Kinds} (k : ErrorKind) → IsRequest k → IsLone ks → IsAmong k ks → ks ≡ k ∷ []
request_alone k request none among = absurd among
request_alone k request (one x) (inl same) = ap (λ y. y ∷ []) (sym same)
request_alone k request (one x) (inr past) = absurd past
request_alone k (inl help) stray (inl same) = absurd (cc)
request_alone k (inl help) stray (inr (inl same)) = absurd (cc)
request_alone k (inr version) stray (inl same) = absurd (cc)
request_alone k (inr version) stray (inr (inl same)) = absurd (cc)
request_alone k request stray (inr (inr past)) = absurd past

asks_help : (words : List Text) (k : ErrorKind) → IsRequest k → IsAmong k (errors_in words) → AsksHelp words
unfolding AsksHelp
asks_help words k (inl help) among = inl (request_alone k (inl help) (faults-lone words) among ∙ ap (λ x. x ∷ []) help)
asks_help words k (inr version) among = inr (request_alone k (inr version) (faults-lone words) among ∙ ap (λ x. x ∷ []) version)

only_request : (words : List Text) (k : ErrorKind) → IsAmong k (errors_in words) → AsksHelp words → IsRequest k
unfolding AsksHelp
only_request words k among (inl help) = ⊎_elim (λ same. inl same) (λ past. absurd past) (subst (IsAmong k) help among)
only_request words k among (inr version) = ⊎_elim (λ same. inr same) (λ past. absurd past) (subst (IsAmong k) version among)

is_faulty : (words : List Text) (k : ErrorKind) → (IsRequest k → ⊥) → IsAmong k (errors_in words) → IsMisuse words
is_faulty words k other among = record {
  fault = λ passes. subst (IsAmong k) passes among;
  no_request = λ asks. other (only_request words k among asks);
}

is_cause : (words : List Text) (k : ErrorKind) (e : WordsError) → IsAnswerTo k e → (k ≡ kind.OutOfMemory) ⊎ IsAmong k (errors_in words) → IsCause words e
is_cause words k (error.Help text) (inl request) (inl memory) = absurd (cc)
is_cause words k (error.Help text) (inr request) (inl memory) = absurd (cc)
is_cause words k (error.Help text) request (inr among) = asks_help words k request among
is_cause words k (error.Faulty text) other (inl memory) = absurd (other.1 memory)
is_cause words k (error.Faulty text) other (inr among) = is_faulty words k other.0 among
is_cause words k (error.Number option) at from = absurd at
is_cause words k error.OutOfMemory at from = tt

-- ---- exactly one

no_faultless_help : (words : List Text) → errors_in words ≡ [] → AsksHelp words → ⊥
unfolding AsksHelp
no_faultless_help words passes (inl help) = absurd (cc)
no_faultless_help words passes (inr version) = absurd (cc)

abbrev IsSomeGiven : List Text → Type 0
IsSomeGiven words = (command : Command) × IsGiven words command

abbrev IsSomeMisnumbered : List Text → Type 0
IsSomeMisnumbered words = (option : NumberOption) × IsMisnumbered words option

-- words without an error are a command, or one of their numbers is wrong
some_faultless : (words : List Text) → errors_in words ≡ [] → IsSomeGiven words ⊎ IsSomeMisnumbered words
some_faultless words e = elim (right_or_first (value_in words) (option_map_or numbers_of (subcommand_in words) [])) [
  | inl right ↦ inl (some_command words e right)
  | inr wrong ↦ inr (wrong.0, record { faultless = e; first = wrong.1 })
]

some_of : (words : List Text) (ks : Kinds) → errors_in words ≡ ks → IsSomeGiven words ⊎ (AsksHelp words ⊎ IsMisuse words ⊎ IsSomeMisnumbered words)
some_of words [] e = elim (some_faultless words e) [
  | inl given ↦ inl given
  | inr wrong ↦ inr (inr (inr wrong))
]
some_of words (k ∷ ks) e = inr (go k (subst (IsAmong k) (sym e) (inl refl)))
  where
    go : (k : ErrorKind) → IsAmong k (errors_in words) → AsksHelp words ⊎ IsMisuse words ⊎ IsSomeMisnumbered words
    go kind.DisplayHelp among = inl (asks_help words kind.DisplayHelp (inl refl) among)
    go kind.DisplayVersion among = inl (asks_help words kind.DisplayVersion (inr refl) among)
    go k among = inr (inl (is_faulty words k (λ request. elim request [ inl help ↦ cc | inr version ↦ cc ]) among))

pub is_exactly_one : (words : List Text) → IsExactlyOne words
is_exactly_one words = record {
  some = some_of words (errors_in words) refl;
  no_command_help = λ command given. no_faultless_help words (faultless words command given);
  no_command_fault = λ command given faulty. faulty.fault (faultless words command given);
  no_help_fault = λ asks faulty. faulty.no_request asks;
  no_command_number = λ command option given wrong. never_both (value_in words) _ option (given_right words command given) wrong.first;
  no_help_number = λ option asks wrong. no_faultless_help words wrong.faultless asks;
  no_fault_number = λ option faulty wrong. faulty.fault wrong.faultless;
  one_command = one_command words;
  one_number = λ a b ha hb. one_first (value_in words) _ a b ha.first hb.first;
}

-- ---- what clap's parse of the program's command says

misnumbered : (words : List Text) (option : NumberOption) → errors_in words ≡ [] → IsMisvalued (subcommand_of eco_app words) option → IsMisnumbered words option
unfolding value_in subcommand_in
misnumbered words option e first = record { faultless = e; first = first }

-- where the words don't begin with the word `help`, clap decides
clap_decides : (words : List Text) → is_help_word words ≡ false → errors_in words ≡ fault_of eco_app words
unfolding errors_in
clap_decides words other = ap (λ (b : Bool). cond b (kind.DisplayHelp ∷ []) (fault_of eco_app words)) other

-- and where they do, with nothing wrong behind it, they ask for help
pub helped_by_word : (words : List Text) → is_help_word words ≡ true → AsksHelp words
unfolding AsksHelp errors_in
helped_by_word words is = inl (ap (λ (b : Bool). cond b (kind.DisplayHelp ∷ []) (fault_of eco_app words)) is)

module _ (a : App) (is : a ≡ eco_app) (words : List Text) (other : is_help_word words ≡ false) where
  matched : (m : ArgMatches) → HasMatchesOf a words m → subcommand_rows_of m ≡ subcommand_of eco_app words
  matched m has = (has (ap is_simple is ∙ eco_is_simple)).1 ∙ ap (λ x. subcommand_of x words) is

  passed : (is_simple_and_free a ≡ true → fault_of a words ≡ []) → errors_in words ≡ []
  passed kinds = clap_decides words other ∙ ap (λ x. fault_of x words) (sym is) ∙ kinds (ap is_simple_and_free is ∙ eco_is_free)

  pub matched_entered : (m : ArgMatches) → HasMatchesOf a words m → (is_simple_and_free a ≡ true → fault_of a words ≡ []) → IsEntered (subcommand_rows_of m)
  matched_entered m has kinds = subst IsEntered (sym (matched m has)) (enters_known words (passed kinds))

  matched_command : (m : ArgMatches) (i : Invocation) → HasMatchesOf a words m → (is_simple_and_free a ≡ true → fault_of a words ≡ [])
      → IsTaken (subcommand_rows_of m) i → IsCommand words i
  matched_command m i has kinds given =
      command_given words i (passed kinds) (subst (λ (o : Option (Text × List Row)). IsTaken o i) (matched m has) given)

  matched_wrong : (m : ArgMatches) (e : WordsError) → HasMatchesOf a words m → (is_simple_and_free a ≡ true → fault_of a words ≡ [])
      → IsMisread (IsMisvalued (subcommand_rows_of m)) e → IsCause words e
  matched_wrong m (error.Help text) has kinds wrong = absurd wrong
  matched_wrong m (error.Faulty text) has kinds wrong = absurd wrong
  matched_wrong m error.OutOfMemory has kinds wrong = tt
  matched_wrong m (error.Number option) has kinds wrong =
      misnumbered words option (passed kinds) (subst (λ (o : Option (Text × List Row)). IsMisvalued o option) (matched m has) wrong)

  pub matched_commands : (m : ArgMatches) (r : Result Invocation WordsError) → HasMatchesOf a words m → (is_simple_and_free a ≡ true → fault_of a words ≡ [])
      → IfOk r (IsTaken (subcommand_rows_of m)) → IfOk r (IsCommand words)
  matched_commands m r has kinds given = IfOk-weaker r (IsTaken (subcommand_rows_of m)) (IsCommand words) (λ i taken. matched_command m i has kinds taken) given

  pub matched_wrongs : (m : ArgMatches) (r : Result Invocation WordsError) → HasMatchesOf a words m → (is_simple_and_free a ≡ true → fault_of a words ≡ [])
      → IfErr r (IsMisread (IsMisvalued (subcommand_rows_of m))) → IfErr r (IsCause words)
  matched_wrongs m (Ok i) has kinds wrong = tt
  matched_wrongs m (Err e) has kinds wrong = matched_wrong m e has kinds wrong

  pub failed_cause : (e : Error) (w : WordsError) → (is_simple_and_free a ≡ true → HasKind (fault_of a words) e) → IsAnswerTo (kind_of e) w → IsCause words w
  failed_cause e w kinds at =
      let by_clap = subst (λ (x : App). HasKind (fault_of x words) e) is (kinds (ap is_simple_and_free is ∙ eco_is_free)) in
      is_cause words (kind_of e) w at (subst (λ (ks : Kinds). HasKind ks e) (sym (clap_decides words other)) by_clap)
