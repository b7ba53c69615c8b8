-- The name and the values of the subcommand that a parse entered, by its matches.
use Rattle.std.proofs.Common.{◌≡◌, ◌∙◌, ◌↔◌, true≢false, ap, refl, subst, sym, Option, Some, None, List, [], Result, Ok, Err, IfOk, IfErr}
use Rattle.std.specs.Prelude.{◌≢◌, Box, IfNone, IfSome, IsSome, option_map, unwrap_or}
use Rattle.std.specs.Borrow.{Bor}
use Rattle.std.specs.Box.{box_value}
use Rattle.std.specs.Option.{option_map_or}
use Rattle.clap.specs.Words.{Row, Text, all_of, first_of, first_value, found_of, rows_of, subcommand_name_of, subcommand_rows, subcommand_rows_of}
use Rattle.clap.specs.declared.ArgMatches.{ArgMatches}
use Rattle.clap.specs.declared.parser.matches.ArgMatches.TheViews.{out-ArgMatches, out-SubCommand}
use Rattle.clap.specs.declared.parser.matches.SubCommand.{SubCommand}
use Rattle.clap.specs.declared.parser.matches.Found.{Found}
use Rattle.clap.proofs.WalkLemmas.{first_value-rows, raw_values-rows}
use Rattle.eco_words.specs.CommandLine.{IsFirstWrong, name_given, numbers_of, value_given, values_given}
use Rattle.eco_words.specs.Steps.{AllHaveValues, HasValues, IsEntered, IsMisread, IsMisvalued, IsOpened, IsTaken, all_values, numbered, required_of}
use Rattle.eco_words.specs.declared.answer.WordsError.{WordsError}
use Rattle.eco_words.specs.declared.answer.WordsError.TheVariants as error
use Rattle.eco_words.specs.declared.answer.Invocation.{Invocation}
use Rattle.eco_words.specs.declared.answer.NumberOption.{NumberOption}

-- a subcommand's matches give the values that its rows give
-- and so for all values of an option
all_of-found : (found : Found) (name : Text) → unwrap_or (all_of name (rows_of found)) [] ≡ all_values found name
all_of-found found name = ap (λ (values : Option (List Text)). unwrap_or values []) (sym (raw_values-rows found name))

values_given-found : (entered : Option (Text × List Row)) (found : Found) → option_map (λ e. e.1) entered ≡ Some (rows_of found)
    → values_given entered ≡ all_values found
values_given-found None found e = absurd (cc)
values_given-found (Some p) found e =
    let rows : rows_of found ≡ p.1 = cc in
    λ i name. (ap (λ (rows : List Row). unwrap_or (all_of name rows) []) (sym rows) ∙ all_of-found found name) i

value_given-found : (entered : Option (Text × List Row)) (found : Found) → option_map (λ e. e.1) entered ≡ Some (rows_of found)
    → value_given entered ≡ first_value found
value_given-found None found e = absurd (cc)
value_given-found (Some p) found e =
    let rows : rows_of found ≡ p.1 = cc in
    λ i name. (sym (first_value-rows found name ∙ ap (first_of name) rows)) i

-- the name that a parse met is that of its rows
pub name_given-met : (m : ArgMatches) → subcommand_name_of m ≡ name_given (subcommand_rows_of m)
name_given-met m = go (out-ArgMatches m).subcommand
  where
    go : {Z : Type 0} (o : Option (Box SubCommand Z)) → option_map (λ b. (out-SubCommand (box_value b)).name.now) o ≡ name_given (subcommand_rows o)
    go None = refl
    go (Some b) = refl

pub opened : (entered : Option (Text × List Row)) (name : Text) (found : Found) → IsEntered entered → name_given entered ≡ Some name
    → option_map (λ e. e.1) entered ≡ Some (rows_of found) → IsOpened entered name (first_value found) (all_values found)
opened entered name found entry is rows =
    let same = value_given-found entered found rows in
    let names : Some entry.name ≡ Some name = sym entry.is ∙ is in
    let own : entry.name ≡ name = cc names in
    record {
      is = is;
      same = same;
      same_all = values_given-found entered found rows;
      wanted = subst (λ (n : Text). AllHaveValues (first_value found) (required_of n)) own
          (subst (λ (value : Text → Option Text). AllHaveValues value (required_of entry.name)) same entry.values);
    }

-- whether the subcommand of a name was entered, and with which values, by what a parse gives under that name
module _ (m : ArgMatches) (name : Text) (r : Option (Bor ArgMatches)) (found : IsSome r ↔ (subcommand_name_of m ≡ Some name)) where
  pub opened_some : IsEntered (subcommand_rows_of m) → IfSome r (λ o. option_map (λ p. p.1) (subcommand_rows_of m) ≡ Some (rows_of (found_of o.now)))
      → IfSome r (λ o. IsOpened (subcommand_rows_of m) name (first_value (found_of o.now)) (all_values (found_of o.now)))
  opened_some entry rows = go r found rows
    where
      go : (r : Option (Bor ArgMatches)) → (IsSome r ↔ (subcommand_name_of m ≡ Some name))
          → IfSome r (λ o. option_map (λ p. p.1) (subcommand_rows_of m) ≡ Some (rows_of (found_of o.now)))
          → IfSome r (λ o. IsOpened (subcommand_rows_of m) name (first_value (found_of o.now)) (all_values (found_of o.now)))
      go None found rows = tt
      go (Some o) found rows = opened (subcommand_rows_of m) name (found_of o.now) entry (sym (name_given-met m) ∙ found.0 refl) rows

  pub opened_none : IfNone r (name_given (subcommand_rows_of m) ≢ Some name)
  opened_none = go r found
    where
      go : (r : Option (Bor ArgMatches)) → (IsSome r ↔ (subcommand_name_of m ≡ Some name)) → IfNone r (name_given (subcommand_rows_of m) ≢ Some name)
      go None found = λ is. true≢false (sym (found.1 (name_given-met m ∙ is)))
      go (Some o) found = tt

-- what is read of the options of the subcommand that was entered is the command
pub taken : (entered : Option (Text × List Row)) (name : Text) (value : Text → Option Text) (all : Text → List Text) (r : Result Invocation WordsError)
    → IsOpened entered name value all → IfOk r (HasValues name value all) → IfOk r (IsTaken entered)
taken entered name value all (Ok command) opened has =
    record {
      name = name;
      is = opened.is;
      has = subst (λ (v : Text → Option Text). HasValues name v (values_given entered) command) (sym opened.same)
          (subst (λ (v : Text → List Text). HasValues name value v command) (sym opened.same_all) has);
    }
taken entered name value all (Err error) opened has = tt

pub taken_numbered : (entered : Option (Text × List Row)) (name : Text) (value : Text → Option Text) (all : Text → List Text) (r : Result Invocation NumberOption) (answer : Result Invocation WordsError)
    → IsOpened entered name value all → IfOk r (HasValues name value all) → answer ≡ numbered r → IfOk answer (IsTaken entered)
taken_numbered entered name value all r answer opened has is =
    subst (λ (answer : Result Invocation WordsError). IfOk answer (IsTaken entered)) (sym is) (taken entered name value all (numbered r) opened (go r has))
  where
    go : (r : Result Invocation NumberOption) → IfOk r (HasValues name value all) → IfOk (numbered r) (HasValues name value all)
    go (Ok command) has = has
    go (Err option) has = tt

-- and so is an option that is wrong first
pub misvalued : (entered : Option (Text × List Row)) (name : Text) (value : Text → Option Text) (all : Text → List Text) (r : Result Invocation WordsError)
    → IsOpened entered name value all → IfErr r (IsMisread (IsFirstWrong value (numbers_of name))) → IfErr r (IsMisread (IsMisvalued entered))
misvalued entered name value all (Ok command) opened wrong = tt
misvalued entered name value all (Err (error.Help text)) opened wrong = wrong
misvalued entered name value all (Err (error.Faulty text)) opened wrong = wrong
misvalued entered name value all (Err error.OutOfMemory) opened wrong = tt
misvalued entered name value all (Err (error.Number option)) opened wrong =
    subst (λ (n : Option Text). IsFirstWrong (value_given entered) (option_map_or numbers_of n []) option) (sym opened.is)
    (subst (λ (v : Text → Option Text). IsFirstWrong v (numbers_of name) option) (sym opened.same) wrong)

pub misvalued_numbered : (entered : Option (Text × List Row)) (name : Text) (value : Text → Option Text) (all : Text → List Text) (r : Result Invocation NumberOption) (answer : Result Invocation WordsError)
    → IsOpened entered name value all → IfErr r (IsFirstWrong value (numbers_of name)) → answer ≡ numbered r → IfErr answer (IsMisread (IsMisvalued entered))
misvalued_numbered entered name value all r answer opened wrong is =
    subst (λ (answer : Result Invocation WordsError). IfErr answer (IsMisread (IsMisvalued entered))) (sym is) (misvalued entered name value all (numbered r) opened (go r wrong))
  where
    go : (r : Result Invocation NumberOption) → IfErr r (IsFirstWrong value (numbers_of name)) → IfErr (numbered r) (IsMisread (IsFirstWrong value (numbers_of name)))
    go (Ok command) wrong = tt
    go (Err option) wrong = wrong
