-- The subcommand that words without an error enter is one of the program's, and has a value for each option that has to be given.
use Rattle.std.proofs.Common.{◌≡◌, ◌&&◌, ◌||◌, Bool, cond, true, false, true≢false, refl, sym, subst, inl, inr, List, [], ◌∷◌, Option, Some, None}
use Rattle.std.specs.List.{list_all, list_any}
use Rattle.std.specs.Str.{bytes_eq}
use Rattle.std.specs.Prelude.{IsSome}
use Rattle.clap.specs.Words.{Row, Rule, Shape, Text, Kinds, built, fault_of, first_of, is_simple, is_simple_and_free, subcommand_of}
use Rattle.clap.specs.Walk.{nothing_held, rows_after}
use Rattle.clap.specs.Simple.{argument_words}
use Rattle.clap.proofs.OnLiterals.{clap_on_literals}
use Rattle.clap.proofs.WalkLemmas.{both}
use Rattle.eco_lists.proofs.Names.{same_name}
use Rattle.eco_words.specs.EcoCommand.{eco_app, subcommands}
use Rattle.eco_words.specs.CommandLine.{errors_in, is_help_word}
use Rattle.eco_words.specs.Steps.{AllHaveValues, IsEntered, IsNamed, required_of}
use Rattle.clap.specs.declared.error.kind.ErrorKind.TheVariants as kind
use Rattle.eco_words.proofs.LoneFaults.{IsLone, lone-built, one}
use Rattle.eco_words.proofs.FilledRows.{HaveValues, IsOneOf, enters_one, is_filling, level_values}

pub eco_is_simple : is_simple eco_app ≡ true
unfolding eco_app clap_on_literals
eco_is_simple = refl

pub eco_is_free : is_simple_and_free eco_app ≡ true
unfolding eco_app clap_on_literals
eco_is_free = refl

pub faults-lone : (words : List Text) → IsLone (errors_in words)
unfolding errors_in eco_app
faults-lone words = go (is_help_word words) (lone-built (built eco_app) refl refl nothing_held (argument_words eco_app words))
  where
    go : {ks : Kinds} (b : Bool) → IsLone ks → IsLone (cond b (kind.DisplayHelp ∷ []) ks)
    go true clean = one _
    go false clean = clean

-- where there is no error, clap finds none
clap_finds_none : (words : List Text) → errors_in words ≡ [] → fault_of eco_app words ≡ []
unfolding errors_in
clap_finds_none words e = go (is_help_word words) e
  where
    go : {ks : Kinds} (b : Bool) → cond b (kind.DisplayHelp ∷ []) ks ≡ [] → ks ≡ []
    go true e = absurd (cc)
    go false e = e

-- ---- the levels of the program's command

-- the rule is that of this option, which has to be given
abbrev wants : Text → Rule → Bool
wants name rule = rule.required && bytes_eq rule.id name

-- the level is a known subcommand's: each of its options takes a value, and those that it wants have to be given
abbrev is_ready : Shape → Bool
is_ready s =
    list_any (bytes_eq s.name) subcommands
    && (list_all is_filling s.rules && list_all (λ name. list_any (wants name) s.rules) (required_of s.name))

levels_ready : list_all is_ready (built eco_app).subs ≡ true
unfolding eco_app
levels_ready = refl

one_ready : (test : Shape → Bool) (subs : List Shape) (s : Shape) → list_all test subs ≡ true → IsOneOf subs s → test s ≡ true
one_ready test [] s all known = absurd known
one_ready test (x ∷ xs) s all (inl is) = subst (λ (y : Shape). test y ≡ true) (sym is) (both (test x) _ all).0
one_ready test (x ∷ xs) s all (inr later) = one_ready test xs s (both (test x) _ all).1 later

named : (names : List Text) (name : Text) → list_any (bytes_eq name) names ≡ true → IsNamed names name
named [] name e = absurd (true≢false (sym e))
named (x ∷ xs) name e = go (bytes_eq name x) refl e (named xs name)
  where
    go : (b : Bool) → bytes_eq name x ≡ b → (b || list_any (bytes_eq name) xs) ≡ true → (list_any (bytes_eq name) xs ≡ true → IsNamed xs name)
        → IsNamed (x ∷ xs) name
    go true is e later = inl (same_name name x is)
    go false is e later = inr (later e)

has_some : (o : Option Text) → (v : Text) × (o ≡ Some v) → IsSome o
has_some None h = absurd (cc)
has_some (Some v) h = refl

module _ (rows : List Row) where
  wanted_value : (name : Text) (rules : List Rule) → list_any (wants name) rules ≡ true → HaveValues rows rules → IsSome (first_of name rows)
  wanted_value name [] e h = absurd (true≢false (sym e))
  wanted_value name (rule ∷ rules) e h = go (wants name rule) refl e (λ more. wanted_value name rules more h.1)
    where
      go : (b : Bool) → wants name rule ≡ b → (b || list_any (wants name) rules) ≡ true → (list_any (wants name) rules ≡ true → IsSome (first_of name rows))
          → IsSome (first_of name rows)
      go true is e later =
          let parts = both rule.required _ is in
          subst (λ (id : Text). IsSome (first_of id rows)) (same_name rule.id name parts.1) (has_some _ (h.0 parts.0))
      go false is e later = later e

  wanted_values : (rules : List Rule) (names : List Text) → list_all (λ name. list_any (wants name) rules) names ≡ true → HaveValues rows rules
      → AllHaveValues (λ name. first_of name rows) names
  wanted_values rules [] e h = tt
  wanted_values rules (name ∷ names) e h =
      let parts = both (list_any (wants name) rules) _ e in
      (wanted_value name rules parts.0 h, wanted_values rules names parts.1 h)

pub enters_known : (words : List Text) → errors_in words ≡ [] → IsEntered (subcommand_of eco_app words)
unfolding eco_app
enters_known words e =
    let entry = enters_one (built eco_app) nothing_held (argument_words eco_app words) refl (clap_finds_none words e) in
    let shape = entry.shape in
    let rows = rows_after shape.rules [] entry.words in
    let ready = both (list_any (bytes_eq shape.name) subcommands) _ (one_ready is_ready (built eco_app).subs shape levels_ready entry.known) in
    let filled = both (list_all is_filling shape.rules) _ ready.1 in
    subst IsEntered (sym entry.is) (record {
      name = shape.name;
      is = refl;
      known = named subcommands shape.name ready.0;
      values = wanted_values rows shape.rules (required_of shape.name) filled.1 (level_values shape entry.words filled.0 entry.passes);
    })
