-- What a parse without an error holds, of any command whose options take a value: each option that was used has a value, and each
-- required one was used.
use Rattle.std.proofs.Common.{◌≡◌, ◌+◌, ◌&&◌, ◌||◌, ℕ, Bool, cond, true, false, not, zero, suc, refl, sym, ap, List, [], ◌∷◌, ◌++◌, Option, Some, None, length, min, is_some, nat_lt, true≢false, inl, inr}
use Rattle.std.specs.List.{find, fold, list_all, list_any}
use Rattle.std.specs.Option.{option_map_or}
use Rattle.std.specs.Str.{bytes_eq, chars}
use Rattle.std.specs.Prelude.{encode_utf8, slice_get, option_and_then, option_map, drop, ◌⊎◌}
use Rattle.clap.specs.Lexer.{long_of, short_of}
use Rattle.clap.specs.Matches.{count_text}
use Rattle.clap.specs.Facts.{explicit_source, unwrap_or_range}
use Rattle.clap.specs.Walk.{Held, Names, Outcome, Row, Rule, Step, Text, Waiting, Walk, action_of, after_flag, after_step, arg_by_id, arg_by_index, arg_by_long, arg_by_short, answers_to, at_row, attached_value, bundle, bundle_met, bundle_step, count_of, counted, default_rows, done, finished, first_of, flag_met, has_row, is_empty, is_pending, long_met, long_or_other, more_values, most_values, new_count, nothing_held, option, option_met, option_word, plain, plain_word, reacted, reading_by, rows_after, settled, settled_rows, short_met, short_or_plain, subcommand_met, subcommand_or_other, trailing, takes_several, takes_values, to_positional, used, used_as, used_by_id, value, values_or_missing, waits, walk, walk_from, walked, walked_from, with_count, with_default, with_values, without, word_met}
use Rattle.clap.specs.Simple.{App, Shape, entered, label_of, names_of, rows_at}
use Rattle.clap.specs.Takes.{is_given}
use Rattle.clap.specs.Kinds.{Kinds, check_kinds, or_else, range_kinds}
use Rattle.clap.specs.Faults.{built_fault, bundle_fault, bundle_step_fault, check_fault, defaults_fault, entered_fault, flag_word_fault, flags_fault, level_fault, long_fault, option_fault, other_fault, react_fault, settle_fault, short_fault, step_fault, stray_fault, turn_fault, use_fault, walk_fault, word_fault, positional_fault}
use Rattle.clap.proofs.WalkLemmas.{both}
use Rattle.clap.specs.declared.builder.action.ArgAction.{ArgAction}
use Rattle.clap.specs.declared.builder.action.ArgAction.TheVariants as action
use Rattle.clap.specs.declared.error.kind.ErrorKind.TheVariants as kind
use Rattle.clap.specs.declared.parser.matches.ValueSource.{ValueSource}
use Rattle.clap.specs.declared.parser.matches.ValueSource.TheVariants.{CommandLine, DefaultValue}
use Rattle.clap.specs.declared.builder.value_parser.Reading.{Reading}
use Rattle.eco_lists.proofs.Tests.{neither}

-- two steps pass where each does
or_passes : (a b : Kinds) → or_else a b ≡ [] → (a ≡ []) × (b ≡ [])
or_passes [] b e = (refl, e)
or_passes (k ∷ ks) b e = absurd (cc)

-- ---- rows with a value

abbrev IsFilled : List Text → Type 0
IsFilled [] = ⊥
IsFilled (v ∷ vs) = Unit {0}

abbrev AreFilled : List Row → Type 0
AreFilled [] = Unit {0}
AreFilled (r ∷ rows) = IsFilled r.values × AreFilled rows

filled-values : (xs ys : List Text) → IsFilled xs → IsFilled (xs ++ ys)
filled-values [] ys h = absurd h
filled-values (x ∷ xs) ys h = tt

filled-append : (xs ys : List Row) → AreFilled xs → AreFilled ys → AreFilled (xs ++ ys)
filled-append [] ys hx hy = hy
filled-append (x ∷ xs) ys hx hy = (hx.0, filled-append xs ys hx.1 hy)

filled-at_row : (id : Text) (change : Row → List Row) (missing rows : List Row) → ((r : Row) → IsFilled r.values → AreFilled (change r)) → AreFilled missing
    → AreFilled rows → AreFilled (at_row id change missing rows)
filled-at_row id change missing [] hc hm h = hm
filled-at_row id change missing (r ∷ rows) hc hm h = go (bytes_eq r.id id) (filled-append (change r) rows (hc r h.0) h.1) (filled-at_row id change missing rows hc hm h.1)
  where
    go : (b : Bool) → AreFilled (change r ++ rows) → AreFilled (at_row id change missing rows) → AreFilled (cond b (change r ++ rows) (r ∷ at_row id change missing rows))
    go true here later = here
    go false here later = (h.0, later)

filled-without : (id : Text) (rows : List Row) → AreFilled rows → AreFilled (without id rows)
filled-without id rows h = filled-at_row id (λ _. []) [] rows (λ r f. tt) tt h

filled-with : (id : Text) (how : Reading) (s : ValueSource) (values : List Text) (rows : List Row) → IsFilled values → AreFilled rows → AreFilled (with_values id how s values rows)
filled-with id how s values rows f h = filled-at_row id (more_values s values) _ rows (λ r g. (filled-values r.values values g, tt)) (f, tt) h

filled-count : (id : Text) (how : Reading) (s : ValueSource) (n : ℕ) (rows : List Row) → AreFilled rows → AreFilled (with_count id how s n rows)
filled-count id how s n rows h = filled-at_row id (new_count s n) _ rows (λ r g. (filled-values r.values (count_text n ∷ []) g, tt)) (tt, tt) h

-- ---- one use

-- an action that leaves its values to the words
abbrev pub wants_values : ArgAction → Bool
wants_values action.Set = true
wants_values action.Append = true
wants_values action.SetTrue = true
wants_values action.SetFalse = true
wants_values _ = false

-- a use of the argument has a value: one that is wanted, or one that stands for a use with none
abbrev pub is_filling : Rule → Bool
is_filling a = not (wants_values (action_of a)) || (nat_lt 0 (unwrap_or_range a.range).start_inclusive || not (is_empty a.missing))

no_empty : (missing : List Text) → not (is_empty missing) ≡ true → IsFilled missing
no_empty [] e = absurd (true≢false (sym e))
no_empty (v ∷ vs) e = tt

filled-use_values : (a : Rule) (values : List Text) → (nat_lt 0 (unwrap_or_range a.range).start_inclusive || not (is_empty a.missing)) ≡ true
    → range_kinds (unwrap_or_range a.range).start_inclusive (most_values a) (length values) ≡ [] → IsFilled (values_or_missing a values)
filled-use_values a (v ∷ vs) e range = tt
filled-use_values a [] e range = go (nat_lt 0 (unwrap_or_range a.range).start_inclusive) _ e range
  where
    go : (b : Bool) (rest : Kinds) → (b || not (is_empty a.missing)) ≡ true → cond (b && true) (kind.InvalidValue ∷ []) rest ≡ [] → IsFilled a.missing
    go true rest e range = absurd (cc)
    go false rest e range = no_empty a.missing e

filled-counted : (id : Text) (how : Reading) (values : List Text) (rows : List Row) → AreFilled rows → AreFilled (counted id how values rows)
filled-counted id how [] rows h = filled-count id how CommandLine (min (count_of id rows + 1) 255) (without id rows) (filled-without id rows h)
filled-counted id how (v ∷ vs) rows h = filled-with id how CommandLine (v ∷ vs) (without id rows) tt (filled-without id rows h)

filled-used : (again : Bool) (a : Rule) (values : List Text) (rows : List Row) → is_filling a ≡ true → use_fault again a values rows ≡ [] → AreFilled rows
    → AreFilled (used a values rows)
filled-used again a values rows fills e h =
    go (action_of a) fills (or_passes (range_kinds (unwrap_or_range a.range).start_inclusive (most_values a) (length values)) _ e).0
  where
    go : (x : ArgAction) → (not (wants_values x) || (nat_lt 0 (unwrap_or_range a.range).start_inclusive || not (is_empty a.missing))) ≡ true
        → range_kinds (unwrap_or_range a.range).start_inclusive (most_values a) (length values) ≡ []
        → AreFilled (used_as x a.id (reading_by a) (values_or_missing a values) rows)
    go action.Set f range = filled-with a.id _ CommandLine _ (without a.id rows) (filled-use_values a values f range) (filled-without a.id rows h)
    go action.SetTrue f range = filled-with a.id _ CommandLine _ (without a.id rows) (filled-use_values a values f range) (filled-without a.id rows h)
    go action.SetFalse f range = filled-with a.id _ CommandLine _ (without a.id rows) (filled-use_values a values f range) (filled-without a.id rows h)
    go action.Append f range = filled-with a.id _ CommandLine _ rows (filled-use_values a values f range) h
    go action.Count f range = filled-counted a.id _ (values_or_missing a values) rows h
    go action.Help f range = h
    go action.HelpShort f range = h
    go action.HelpLong f range = h
    go action.Version f range = h

-- ---- the walk

abbrev FillsIf : Option Rule → Type 0
FillsIf None = Unit {0}
FillsIf (Some a) = is_filling a ≡ true

filling-found : (p : Rule → Bool) (c : List Rule) → list_all is_filling c ≡ true → FillsIf (find p c)
filling-found p [] all = tt
filling-found p (a ∷ c) all = go (p a) (both (is_filling a) _ all).0 (filling-found p c (both (is_filling a) _ all).1)
  where
    go : (b : Bool) → is_filling a ≡ true → FillsIf (find p c) → FillsIf (cond b (Some a) (find p c))
    go true here later = here
    go false here later = later

module _ (c : List Rule) (again : Bool) (all : list_all is_filling c ≡ true) where
  filled-settled : (h : Held) → settle_fault c again h ≡ [] → AreFilled h.rows → AreFilled (settled c h).rows
  filled-settled h e f = go h.pending e
    where
      by_rule : (o : Option Rule) (values : List Text) → FillsIf o → option_map_or (λ a. use_fault again a values h.rows) o [] ≡ [] → AreFilled (used_by_id o values h.rows)
      by_rule None values fills e = f
      by_rule (Some a) values fills e = filled-used again a values h.rows fills e f

      go : (p : Option (Text × List Text)) → option_map_or (λ p. option_map_or (λ a. use_fault again a p.1 h.rows) (arg_by_id c p.0) []) p [] ≡ []
          → AreFilled (settled_rows c p h.rows)
      go None e = f
      go (Some p) e = by_rule (arg_by_id c p.0) p.1 (filling-found _ c all) e

  filled-reacted : (a : Rule) (values : List Text) (h : Held) → is_filling a ≡ true → react_fault c again a values h ≡ [] → AreFilled h.rows
      → AreFilled (reacted c a values h).rows
  filled-reacted a values h fills e f =
      let parts = or_passes (settle_fault c again h) _ e in
      filled-used again a values (settled c h).rows fills parts.1 (filled-settled h parts.0 f)

  filled-option : (a : Rule) (v : Option Text) (h : Held) → is_filling a ≡ true → option_fault c again a v h ≡ [] → AreFilled h.rows
      → AreFilled (option_met c a v h).0.rows
  filled-option a (Some v) h fills e f = filled-reacted a (v ∷ []) h fills e f
  filled-option a None h fills e f = filled-settled h e f

  filled-flag : (a : Rule) (v : Option Text) (h : Held) → is_filling a ≡ true → cond (is_some v) (kind.TooManyValues ∷ []) (react_fault c again a [] h) ≡ []
      → AreFilled h.rows → AreFilled (flag_met c a v h).0.rows
  filled-flag a (Some v) h fills e f = f
  filled-flag a None h fills e f = filled-reacted a [] h fills e f

  filled-long : (found : Option Rule) (v : Option Text) (h : Held) → FillsIf found → long_fault c again found v h ≡ [] → AreFilled h.rows
      → AreFilled (long_met c found v h).0.rows
  filled-long None v h fills e f = f
  filled-long (Some a) v h fills e f = go (takes_values a) e
    where
      go : (b : Bool) → cond b (option_fault c again a v h) (cond (is_some v) (kind.TooManyValues ∷ []) (react_fault c again a [] h)) ≡ []
          → AreFilled (cond b (option_met c a v h) (flag_met c a v h)).0.rows
      go true e = filled-option a v h fills e f
      go false e = filled-flag a v h fills e f

  filled-short : (found : Option Rule) (rest : Text) (h : Held) (to : Held → Held × Outcome) (fault : Held → Kinds) → FillsIf found
      → short_fault c again found rest h fault ≡ [] → ((g : Held) → fault g ≡ [] → AreFilled g.rows → AreFilled (to g).0.rows) → AreFilled h.rows
      → AreFilled (short_met c found rest h to).0.rows
  filled-short None rest h to fault fills e more f = f
  filled-short (Some a) rest h to fault fills e more f = go (takes_values a) e
    where
      go : (b : Bool) → cond b (option_fault c again a (attached_value rest) h) (or_else (react_fault c again a [] h) (fault (reacted c a [] h))) ≡ []
          → AreFilled (cond b (option_met c a (attached_value rest) h) (to (reacted c a [] h))).0.rows
      go true e = filled-option a (attached_value rest) h fills e f
      go false e =
          let parts = or_passes (react_fault c again a [] h) _ e in
          more (reacted c a [] h) parts.1 (filled-reacted a [] h fills parts.0 f)

  filled-bundle : (k : ℕ) (flags : Text) (skip : ℕ) (so_far : Outcome) (h : Held) → flags_fault c again k flags skip h ≡ [] → AreFilled h.rows
      → AreFilled (bundle_met c k flags skip so_far h).0.rows
  unfolding flags_fault bundle_met
  filled-bundle zero flags skip so_far h e f = f
  filled-bundle (suc k) flags skip so_far h e f = go (slice_get (chars flags) 0) skip e (filled-bundle k)
    where
      go : (o : Option ℕ) (skip : ℕ) → bundle_step_fault c again o flags skip h (flags_fault c again k) ≡ []
          → ((t : Text) (n : ℕ) (so_far : Outcome) (g : Held) → flags_fault c again k t n g ≡ [] → AreFilled g.rows → AreFilled (bundle_met c k t n so_far g).0.rows)
          → AreFilled (bundle_step c o flags skip so_far h (bundle_met c k)).0.rows
      go None skip e more = f
      go (Some x) zero e more =
          let rest = drop (length (encode_utf8 x)) flags in
          filled-short (arg_by_short c x) rest h (bundle_met c k rest 0 done) (flags_fault c again k rest 0) (filling-found _ c all) e (more rest 0 done) f
      go (Some x) (suc skip) e more = more (drop (length (encode_utf8 x)) flags) skip so_far h e f

  filled-plain : (waiting : Waiting) (word : Text) (h : Held) → AreFilled h.rows → AreFilled (plain_word c waiting word h).0.rows
  filled-plain (option id) word h f = go (arg_by_id c id)
    where
      go : (o : Option Rule) → AreFilled (option_word o id word h).0.rows
      go None = f
      go (Some a) = f
  filled-plain _ word h f = f

  filled-after_flag : (waiting : Waiting) (word : Text) (h : Held) (outcome : Outcome) → AreFilled h.rows → AreFilled (after_flag c waiting word h outcome).0.rows
  filled-after_flag waiting word h done f = f
  filled-after_flag waiting word h (waits id) f = f
  filled-after_flag waiting word h _ f = filled-plain waiting word h f

module _ (s : Shape) (all : list_all is_filling s.rules ≡ true) (names : Names) where
  filled-word : (is_trailing : Bool) (waiting : Waiting) (position : ℕ) (word : Text) (h : Held) → word_fault s names is_trailing waiting word h ≡ []
      → AreFilled h.rows → AreFilled (word_met s.rules names is_trailing waiting position word h).0.rows
  filled-word true waiting position word h e f = f
  filled-word false waiting position word h e f = met (subcommand_met names waiting word) e
    where
      short : (o : Option Text) → option_map_or (λ flags. bundle_fault s.rules s.args_override_self flags h) o [] ≡ []
          → AreFilled (short_or_plain s.rules waiting word o h).0.rows
      short None e = filled-plain s.rules s.args_override_self all waiting word h f
      short (Some flags) e =
          let there = bundle s.rules flags h in
          filled-after_flag s.rules s.args_override_self all waiting word there.0 there.1
          (filled-bundle s.rules s.args_override_self all (length flags) flags h.skip plain (record h { skip = 0 }) e f)

      long : (o : Option (Text × Option Text)) → flag_word_fault s.rules s.args_override_self o word h ≡ [] → AreFilled (long_or_other s.rules waiting word o h).0.rows
      long None e = short (short_of word) e
      long (Some p) e =
          let there = long_met s.rules (arg_by_long s.rules p.0) p.1 h in
          filled-after_flag s.rules s.args_override_self all waiting word there.0 there.1
          (filled-long s.rules s.args_override_self all (arg_by_long s.rules p.0) p.1 h (filling-found _ s.rules all) e f)

      dashes : (b : Bool) → cond b [] (flag_word_fault s.rules s.args_override_self (long_of word) word h) ≡ []
          → AreFilled (cond b (h, trailing position) (long_or_other s.rules waiting word (long_of word) h)).0.rows
      dashes true e = f
      dashes false e = long (long_of word) e

      met : (o : Option Text) → other_fault s o word h ≡ [] → AreFilled (subcommand_or_other s.rules o waiting position word h).0.rows
      met None e = dashes (bytes_eq word (45 ∷ 45 ∷ [])) e
      met (Some name) e = f

  filled-place : (word : Text) (w : Walk) (h : Held) (step : Step) → step_fault s w.position h step ≡ [] → AreFilled h.rows
      → AreFilled (after_step s.rules word w h step).held.rows
  filled-place word w h value e f = go (arg_by_index s.rules w.position) e
    where
      same : (b : Bool) → cond b [] (settle_fault s.rules s.args_override_self h) ≡ [] → AreFilled (cond b h (settled s.rules h)).rows
      same true e = f
      same false e = filled-settled s.rules s.args_override_self all h e f

      go : (o : Option Rule) → option_map_or (λ a. positional_fault s.rules s.args_override_self a h) o (stray_fault s) ≡ []
          → AreFilled (to_positional s.rules o word w h).held.rows
      go None e = f
      go (Some a) e = same (is_pending a h.pending && takes_several a) e
  filled-place word w h _ e f = f

  filled-walked : (w : Walk) (word : Text) → turn_fault s names w word ≡ [] → AreFilled w.held.rows → AreFilled (walked s.rules names w word).held.rows
  unfolding walked
  filled-walked w word e f = go w.stopped e
    where
      go : (o : Option (Text × List Text))
          → cond (is_some o) [] (or_else (word_fault s names w.is_trailing w.waiting word w.held)
          (step_fault s w.position (word_met s.rules names w.is_trailing w.waiting w.position word w.held).0 (word_met s.rules names w.is_trailing w.waiting w.position word w.held).1)) ≡ []
          → AreFilled (walked_from s.rules names o w word).held.rows
      go (Some p) e = f
      go None e =
          let there = word_met s.rules names w.is_trailing w.waiting w.position word w.held in
          let parts = or_passes (word_fault s names w.is_trailing w.waiting word w.held) _ e in
          filled-place word w there.0 there.1 parts.1 (filled-word w.is_trailing w.waiting w.position word w.held parts.0 f)

  filled-walk : (w : Walk) (words : List Text) → walk_fault s names w words ≡ [] → AreFilled w.held.rows → AreFilled (fold (walked s.rules names) w words).held.rows
  unfolding walk_fault
  filled-walk w [] e f = f
  filled-walk w (word ∷ rest) e f =
      let parts = or_passes (turn_fault s names w word) _ e in
      filled-walk (walked s.rules names w word) rest parts.1 (filled-walked w word parts.0 f)

-- ---- after the walk

filled-default : (rows : List Row) (a : Rule) → AreFilled rows → AreFilled (with_default rows a)
filled-default rows a f = go (has_row a.id rows)
  where
    given : (values : List Text) → AreFilled (default_rows a.id (reading_by a) values rows)
    given [] = f
    given (v ∷ vs) = filled-with a.id (reading_by a) DefaultValue (v ∷ vs) rows tt f

    go : (b : Bool) → AreFilled (cond b rows (default_rows a.id (reading_by a) a.defaults rows))
    go true = f
    go false = given a.defaults

filled-defaults : (rules : List Rule) (rows : List Row) → AreFilled rows → AreFilled (fold with_default rows rules)
filled-defaults [] rows f = f
filled-defaults (a ∷ rules) rows f = filled-defaults rules (with_default rows a) (filled-default rows a f)

-- ---- what is required

-- each required argument has a first value
abbrev pub HaveValues : List Row → List Rule → Type 0
HaveValues rows [] = Unit {0}
HaveValues rows (a ∷ rules) = (a.required ≡ true → (v : Text) × (first_of a.id rows ≡ Some v)) × HaveValues rows rules

abbrev FilledIf : Option Row → Type 0
FilledIf None = Unit {0}
FilledIf (Some r) = IsFilled r.values

filled-found : (p : Row → Bool) (rows : List Row) → AreFilled rows → FilledIf (find p rows)
filled-found p [] f = tt
filled-found p (r ∷ rows) f = go (p r) (filled-found p rows f.1)
  where
    go : (b : Bool) → FilledIf (find p rows) → FilledIf (cond b (Some r) (find p rows))
    go true later = f.0
    go false later = later

given_value : (id : Text) (rows : List Row) → AreFilled rows → is_given id rows ≡ true → (v : Text) × (first_of id rows ≡ Some v)
given_value id rows f e = go (find (λ r. bytes_eq r.id id) rows) (filled-found _ rows f) e
  where
    first : (values : List Text) → IsFilled values → (v : Text) × (slice_get values 0 ≡ Some v)
    first [] f = absurd f
    first (v ∷ vs) f = (v, refl)

    go : (o : Option Row) → FilledIf o → option_map_or (λ r. explicit_source r.source) o false ≡ true
        → (v : Text) × (option_and_then (λ (r : Row). slice_get r.values 0) o ≡ Some v)
    go None f e = absurd (true≢false (sym e))
    go (Some r) f e = first r.values f

not_missing : (a b : Bool) → (a && not b) ≡ false → a ≡ true → b ≡ true
not_missing true true e r = refl
not_missing true false e r = absurd (true≢false e)
not_missing false b e r = absurd (true≢false (sym r))

required_values : (rows : List Row) (rules : List Rule) → AreFilled rows → list_any (λ a. a.required && not (is_given a.id rows)) rules ≡ false → HaveValues rows rules
required_values rows [] f e = tt
required_values rows (a ∷ rules) f e =
    let parts = neither (a.required && not (is_given a.id rows)) _ e in
    ((λ r. given_value a.id rows f (not_missing a.required (is_given a.id rows) parts.0 r)), required_values rows rules f parts.1)

check_passes : (x y z : Bool) → check_kinds x y z ≡ [] → (y ≡ false) × (z ≡ false)
check_passes false false false e = (refl, refl)
check_passes true y z e = absurd (cc)
check_passes false true z e = absurd (cc)
check_passes false false true e = absurd (cc)

-- what passes at a level that passes
record PassesLevel (s : Shape) (names : Names) (h : Held) (words : List Text) (has : Bool) (below : Kinds) : Type 0 where
  pub walks : walk_fault s names (walk_from h) words ≡ []
  pub below_passes : below ≡ []
  pub settles : settle_fault s.rules s.args_override_self (walk s.rules names h words).held ≡ []
  pub checks : check_fault s (finished s.rules (walk s.rules names h words).held) has ≡ []

level_passes : (s : Shape) (names : Names) (h : Held) (words : List Text) (has : Bool) (below : Kinds) → level_fault s names h words has below ≡ []
    → PassesLevel s names h words has below
level_passes s names h words has below e =
    let end = (walk s.rules names h words).held in
    let first = or_passes (walk_fault s names (walk_from h) words) _ e in
    let second = or_passes below _ first.1 in
    let third = or_passes (settle_fault s.rules s.args_override_self end) _ second.1 in
    record {
      walks = first.0;
      below_passes = second.0;
      settles = third.0;
      checks = (or_passes (defaults_fault (settled s.rules end).rows s.rules) _ third.1).1;
    }

-- where a level passes that enters no subcommand, each of its required arguments has a first value
pub level_values : (s : Shape) (words : List Text) → list_all is_filling s.rules ≡ true → level_fault s [] nothing_held words false [] ≡ []
    → HaveValues (rows_after s.rules [] words) s.rules
level_values s words all e =
    let passes = level_passes s [] nothing_held words false [] e in
    let end = (walk s.rules [] nothing_held words).held in
    let rows = filled-defaults s.rules _ (filled-settled s.rules s.args_override_self all end passes.settles (filled-walk s all [] (walk_from nothing_held) words passes.walks tt)) in
    required_values _ s.rules rows (go s.subcommand_negates_reqs (check_passes _ _ _ passes.checks).1)
  where
    go : (negates : Bool) → (not (negates && false) && list_any (λ a. a.required && not (is_given a.id (rows_after s.rules [] words))) s.rules) ≡ false
        → list_any (λ a. a.required && not (is_given a.id (rows_after s.rules [] words))) s.rules ≡ false
    go true e = e
    go false e = e

-- a level that wants a subcommand, and passes, has one
has_subcommand : (s : Shape) (names : Names) (h : Held) (words : List Text) (has : Bool) (below : Kinds) → s.subcommand_required ≡ true
    → level_fault s names h words has below ≡ [] → has ≡ true
has_subcommand s names h words has below wants e =
    let passes = level_passes s names h words has below e in
    go has (rw wants at (check_passes _ _ _ passes.checks).0)
  where
    go : (b : Bool) → (not b && true) ≡ false → b ≡ true
    go true e = refl
    go false e = absurd (true≢false e)

-- ---- the subcommand that a parse enters

abbrev pub IsOneOf : List Shape → Shape → Type 0
IsOneOf [] s = ⊥
IsOneOf (x ∷ xs) s = (s ≡ x) ⊎ IsOneOf xs s

-- the words behind a subcommand's name pass at its own level
pub record Enters (a : App) (stop : Option (Text × List Text)) : Type 0 where
  pub shape : Shape
  pub words : List Text
  pub known : IsOneOf a.subs shape
  pub is : entered a stop ≡ Some (rows_at shape words)
  pub passes : level_fault shape [] nothing_held words false [] ≡ []

found_sub : (test : Shape → Bool) (words : List Text) (subs : List Shape) → is_some (option_map (λ s. rows_at s words) (find test subs)) ≡ true
    → option_map_or (λ s. level_fault s [] nothing_held words false []) (find test subs) [] ≡ []
    → (s : Shape) × IsOneOf subs s × (find test subs ≡ Some s) × (level_fault s [] nothing_held words false [] ≡ [])
found_sub test words [] some e = absurd (true≢false (sym some))
found_sub test words (x ∷ xs) some e = go (test x) some e (found_sub test words xs)
  where
    go : (b : Bool) → is_some (option_map (λ s. rows_at s words) (cond b (Some x) (find test xs))) ≡ true
        → option_map_or (λ s. level_fault s [] nothing_held words false []) (cond b (Some x) (find test xs)) [] ≡ []
        → (is_some (option_map (λ s. rows_at s words) (find test xs)) ≡ true → option_map_or (λ s. level_fault s [] nothing_held words false []) (find test xs) [] ≡ []
        → (s : Shape) × IsOneOf xs s × (find test xs ≡ Some s) × (level_fault s [] nothing_held words false [] ≡ []))
        → (s : Shape) × IsOneOf (x ∷ xs) s × (cond b (Some x) (find test xs) ≡ Some s) × (level_fault s [] nothing_held words false [] ≡ [])
    go true some e later = (x, inl refl, refl, e)
    go false some e later = let there = later some e in (there.0, inr there.1, there.2, there.3)

enters : (a : App) (stop : Option (Text × List Text)) → is_some (entered a stop) ≡ true → entered_fault a stop ≡ [] → Enters a stop
enters a None some e = absurd (true≢false (sym some))
enters a (Some p) some e =
    let found = found_sub (λ s. answers_to p.0 (label_of s)) p.1 a.subs some e in
    record {
      shape = found.0;
      words = p.1;
      known = found.1;
      is = ap (option_map (λ s. rows_at s p.1)) found.2;
      passes = found.3;
    }

-- a command that wants a subcommand enters one, where the words have no error
pub enters_one : (a : App) (h : Held) (words : List Text) → a.top.subcommand_required ≡ true → built_fault a h words ≡ []
    → Enters a (walk a.top.rules (names_of a) h words).stopped
enters_one a h words wants e =
    let stop = (walk a.top.rules (names_of a) h words).stopped in
    let some = has_subcommand a.top (names_of a) h words (is_some (entered a stop)) (entered_fault a stop) wants e in
    enters a stop some (level_passes a.top (names_of a) h words (is_some (entered a stop)) (entered_fault a stop) e).below_passes
