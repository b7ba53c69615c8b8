-- The errors of a parse, of any command without a subcommand `help`: one kind alone, or the two kinds of a stray word.
use Rattle.std.proofs.Common.{◌≡◌, ◌+◌, ◌&&◌, ℕ, Bool, cond, codes, true, false, not, zero, suc, List, [], ◌∷◌, Option, Some, None, length, min, is_some}
use Rattle.std.specs.List.{find, list_all}
use Rattle.std.specs.Option.{option_map_or}
use Rattle.std.specs.Str.{bytes_eq, chars}
use Rattle.std.specs.Prelude.{slice_get}
use Rattle.clap.specs.Lexer.{long_of, short_of}
use Rattle.clap.specs.Walk.{Held, Names, Row, Rule, Step, Text, Waiting, Walk, action_of, answers_to, arg_by_id, arg_by_index, arg_by_long, arg_by_short, attached_value, count_of, finished, most_values, nothing_held, settled, subcommand_met, takes_several, takes_values, value, values_or_missing, walk, walk_from, walked, with_default, word_met, is_pending}
use Rattle.clap.specs.Matches.{count_text}
use Rattle.clap.specs.Facts.{parser_of_value, unwrap_or_range}
use Rattle.clap.specs.Simple.{App, Shape, entered, label_of, names_of}
use Rattle.clap.specs.Kinds.{Kinds, or_else, range_kinds, request_kinds, value_kinds, values_kinds}
use Rattle.clap.specs.Faults.{action_fault, built_fault, bundle_step_fault, check_fault, count_fault, default_fault, defaults_fault, entered_fault, flag_word_fault, flags_fault, level_fault, long_fault, option_fault, other_fault, positional_fault, react_fault, set_fault, settle_fault, short_fault, step_fault, stray_fault, turn_fault, use_fault, walk_fault, word_fault}
use Rattle.clap.proofs.WalkLemmas.{both}
use Rattle.clap.specs.declared.builder.action.ArgAction.{ArgAction}
use Rattle.clap.specs.declared.builder.action.ArgAction.TheVariants as action
use Rattle.clap.specs.declared.builder.value_parser.ValueParser.{ValueParser}
use Rattle.clap.specs.declared.error.kind.ErrorKind.{ErrorKind}
use Rattle.clap.specs.declared.error.kind.ErrorKind.TheVariants as kind

-- no kind, one kind, or the two kinds of a stray word
pub data IsLone : Kinds → Type 0 where
  none : IsLone []
  one : (k : ErrorKind) → IsLone (k ∷ [])
  stray : IsLone (kind.UnknownArgument ∷ kind.InvalidSubcommand ∷ [])

lone-or : {a b : Kinds} → IsLone a → IsLone b → IsLone (or_else a b)
lone-or none hb = hb
lone-or (one k) hb = one k
lone-or stray hb = stray

lone-if : {a b : Kinds} (test : Bool) → IsLone a → IsLone b → IsLone (cond test a b)
lone-if true ha hb = ha
lone-if false ha hb = hb

lone-option : {X : Type 0} (f : X → Kinds) (o : Option X) (d : Kinds) → ((x : X) → IsLone (f x)) → IsLone d → IsLone (option_map_or f o d)
lone-option f None d hf hd = hd
lone-option f (Some x) d hf hd = hf x

-- ---- one use

lone-value : (i : Bool) (p : ValueParser) (t : Text) → IsLone (value_kinds i p t)
lone-value i p t = search (lone-if, none, one)

lone-values : (i : Bool) (p : ValueParser) (ts : List Text) → IsLone (values_kinds i p ts)
lone-values i p [] = none
lone-values i p (t ∷ ts) = lone-or (lone-value i p t) (lone-values i p ts)

lone-range : (least most n : ℕ) → IsLone (range_kinds least most n)
lone-range least most n = search (lone-if, none, one)

lone-request : (x : ArgAction) → IsLone (request_kinds x)
lone-request action.Help = one _
lone-request action.HelpShort = one _
lone-request action.HelpLong = one _
lone-request action.Version = one _
lone-request action.Set = none
lone-request action.Append = none
lone-request action.SetTrue = none
lone-request action.SetFalse = none
lone-request action.Count = none

lone-set : (again : Bool) (a : Rule) (values : List Text) (rows : List Row) → IsLone (set_fault again a values rows)
lone-set again a values rows = search (lone-or, lone-if, none, one, lone-values)

lone-count : (a : Rule) (values : List Text) (rows : List Row) → IsLone (count_fault a values rows)
lone-count a [] rows = lone-value a.ignore_case (parser_of_value a.parser) (count_text (min (count_of a.id rows + 1) 255))
lone-count a (v ∷ vs) rows = lone-values _ _ (v ∷ vs)

lone-action : (x : ArgAction) (again : Bool) (a : Rule) (values : List Text) (rows : List Row) → IsLone (action_fault x again a values rows)
lone-action action.Set again a values rows = lone-set again a values rows
lone-action action.SetTrue again a values rows = lone-set again a values rows
lone-action action.SetFalse again a values rows = lone-set again a values rows
lone-action action.Append again a values rows = lone-values _ _ values
lone-action action.Count again a values rows = lone-count a values rows
lone-action action.Help again a values rows = one _
lone-action action.HelpShort again a values rows = one _
lone-action action.HelpLong again a values rows = one _
lone-action action.Version again a values rows = one _

lone-use : (again : Bool) (a : Rule) (values : List Text) (rows : List Row) → IsLone (use_fault again a values rows)
lone-use again a values rows = lone-or (lone-range (unwrap_or_range a.range).start_inclusive (most_values a) (length values)) (lone-action (action_of a) again a (values_or_missing a values) rows)

-- ---- the walk

module _ (c : List Rule) (again : Bool) where
  lone-settle : (h : Held) → IsLone (settle_fault c again h)
  lone-settle h = lone-option _ h.pending [] (λ p. lone-option _ (arg_by_id c p.0) [] (λ a. lone-use again a p.1 h.rows) none) none

  lone-react : (a : Rule) (values : List Text) (h : Held) → IsLone (react_fault c again a values h)
  lone-react a values h = lone-or (lone-settle h) (lone-use again a values (settled c h).rows)

  lone-value_met : (a : Rule) (v : Option Text) (h : Held) → IsLone (option_fault c again a v h)
  lone-value_met a (Some v) h = lone-react a (v ∷ []) h
  lone-value_met a None h = lone-settle h

  lone-long : (found : Option Rule) (v : Option Text) (h : Held) → IsLone (long_fault c again found v h)
  lone-long None v h = one _
  lone-long (Some a) v h = lone-if (takes_values a) (lone-value_met a v h) (lone-if (is_some v) (one _) (lone-react a [] h))

  lone-short : (found : Option Rule) (rest : Text) (h : Held) (next : Held → Kinds) → ((g : Held) → IsLone (next g)) → IsLone (short_fault c again found rest h next)
  lone-short None rest h next hn = one _
  lone-short (Some a) rest h next hn = lone-if (takes_values a) (lone-value_met a (attached_value rest) h) (lone-or (lone-react a [] h) (hn _))

  lone-step : (o : Option ℕ) (flags : Text) (skip : ℕ) (h : Held) (next : Text → ℕ → Held → Kinds) → ((t : Text) (n : ℕ) (g : Held) → IsLone (next t n g))
      → IsLone (bundle_step_fault c again o flags skip h next)
  lone-step None flags skip h next hn = none
  lone-step (Some x) flags zero h next hn = lone-short (arg_by_short c x) _ h _ (hn _ 0)
  lone-step (Some x) flags (suc skip) h next hn = hn _ skip h

  lone-flags : (k : ℕ) (flags : Text) (skip : ℕ) (h : Held) → IsLone (flags_fault c again k flags skip h)
  unfolding flags_fault
  lone-flags zero flags skip h = none
  lone-flags (suc k) flags skip h = lone-step (slice_get (chars flags) 0) flags skip h (flags_fault c again k) (lone-flags k)

  lone-flag_word : (long : Option (Text × Option Text)) (word : Text) (h : Held) → IsLone (flag_word_fault c again long word h)
  lone-flag_word (Some p) word h = lone-long (arg_by_long c p.0) p.1 h
  lone-flag_word None word h = lone-option _ (short_of word) [] (λ flags. lone-flags (length flags) flags h.skip _) none

  lone-positional : (a : Rule) (h : Held) → IsLone (positional_fault c again a h)
  lone-positional a h = lone-if (is_pending a h.pending && takes_several a) none (lone-settle h)

-- a command with no subcommand `help`
module _ (s : Shape) (off : s.disable_help_subcommand ≡ true) (names : Names) where
  lone-other : (met : Option Text) (word : Text) (h : Held) → IsLone (other_fault s met word h)
  lone-other (Some name) word h = rw off (go (bytes_eq name (codes "help")))
    where
      go : (b : Bool) → IsLone (cond (b && not true) (kind.DisplayHelp ∷ kind.InvalidSubcommand ∷ []) [])
      go true = none
      go false = none
  lone-other None word h = lone-if _ none (lone-flag_word s.rules s.args_override_self (long_of word) word h)

  lone-word : (is_trailing : Bool) (waiting : Waiting) (word : Text) (h : Held) → IsLone (word_fault s names is_trailing waiting word h)
  lone-word is_trailing waiting word h = lone-if is_trailing none (lone-other (subcommand_met names waiting word) word h)

  lone-place : (position : ℕ) (h : Held) (step : Step) → IsLone (step_fault s position h step)
  lone-place position h value = lone-option _ (arg_by_index s.rules position) (stray_fault s)
      (λ a. lone-positional s.rules s.args_override_self a h) (lone-if s.is_leaf (one _) stray)
  lone-place position h _ = none

  lone-turn : (w : Walk) (word : Text) → IsLone (turn_fault s names w word)
  lone-turn w word =
      let met = word_met s.rules names w.is_trailing w.waiting w.position word w.held in
      lone-if (is_some w.stopped) none (lone-or (lone-word w.is_trailing w.waiting word w.held) (lone-place w.position met.0 met.1))

  lone-walk : (w : Walk) (words : List Text) → IsLone (walk_fault s names w words)
  unfolding walk_fault
  lone-walk w [] = none
  lone-walk w (word ∷ rest) = lone-or (lone-turn w word) (lone-walk (walked s.rules names w word) rest)

-- ---- after the walk

lone-default : (rows : List Row) (a : Rule) → IsLone (default_fault rows a)
lone-default rows a = lone-if _ none (lone-or (lone-request (action_of a)) (lone-values _ _ a.defaults))

lone-defaults : (rows : List Row) (rules : List Rule) → IsLone (defaults_fault rows rules)
unfolding defaults_fault
lone-defaults rows [] = none
lone-defaults rows (a ∷ rest) = lone-or (lone-default rows a) (lone-defaults (with_default rows a) rest)

lone-check : (s : Shape) (rows : List Row) (has : Bool) → IsLone (check_fault s rows has)
lone-check s rows has = search (lone-if, none, one)

lone-level : (s : Shape) → s.disable_help_subcommand ≡ true → (names : Names) (h : Held) (words : List Text) (has : Bool) (below : Kinds)
    → IsLone below → IsLone (level_fault s names h words has below)
lone-level s off names h words has below hb =
    let end = (walk s.rules names h words).held in
    lone-or (lone-walk s off names (walk_from h) words)
    (lone-or hb (lone-or (lone-settle s.rules s.args_override_self end) (lone-or (lone-defaults _ s.rules) (lone-check s (finished s.rules end) has))))

lone-find : (p : Shape → Bool) (f : Shape → Kinds) (subs : List Shape) → list_all (λ s. s.disable_help_subcommand) subs ≡ true
    → ((s : Shape) → s.disable_help_subcommand ≡ true → IsLone (f s)) → IsLone (option_map_or f (find p subs) [])
lone-find p f [] all each = none
lone-find p f (s ∷ subs) all each = go (p s) (each s (both _ _ all).0) (lone-find p f subs (both _ _ all).1 each)
  where
    go : (b : Bool) → IsLone (f s) → IsLone (option_map_or f (find p subs) []) → IsLone (option_map_or f (cond b (Some s) (find p subs)) [])
    go true here later = here
    go false here later = later

-- no command of the tree has a subcommand `help`
pub lone-built : (a : App) → a.top.disable_help_subcommand ≡ true → list_all (λ s. s.disable_help_subcommand) a.subs ≡ true
    → (h : Held) (words : List Text) → IsLone (built_fault a h words)
lone-built a off subs h words =
    let stop = (walk a.top.rules (names_of a) h words).stopped in
    lone-level a.top off (names_of a) h words (is_some (entered a stop)) (entered_fault a stop) (go stop)
  where
    go : (stop : Option (Text × List Text)) → IsLone (entered_fault a stop)
    go None = none
    go (Some p) = lone-find (λ s. answers_to p.0 (label_of s)) _ a.subs subs (λ s off. lone-level s off [] nothing_held p.1 false [] none)
