-- Literals that are taken to be true, as the arrays tell of them.
use Rattle.std.proofs.Common.{◌≡◌, ◌≢◌, ℕ, zero, suc, ◌+◌, ◌-◌, ◌<◌, ◌≤◌, ◌^◌, ◌⊎◌, inl, inr, Bool, true, false, List, [], ◌∷◌, ◌++◌, Option, Some, None, length, get_or, set, drop, replicate, map, refl, sym, ap, ◌∙◌, subst, arith, length-append, length-set, length-drop}
use Rattle.std.specs.List.{slice_get, AllPairs, Contains}
use Rattle.std.proofs.Math.ListN.{get_or-append}
use Rattle.std.specs.Option.{option_map, unwrap_or}
use Rattle.std.proofs.lemmas.List.{length-replicate, length-map}
use Rattle.std.proofs.lemmas.List.Elements.{All-nil, All-push, All-contains, Contains-push, Contains-push_cases, Contains-append_left, Contains-get_or}
use Rattle.std.proofs.lemmas.Option.{slice_get-map, slice_get_within, get_or_from_slice_get, none-some, same_Some}
use Rattle.eco_lists.proofs.Places.{place_of, Contains_at, item_at, slice_get-set_same, slice_get-set_other, set_cases, push_cases, slice_get-append_left, slice_get-push_last, pairs_from_places}
use Rattle.eco_lists.proofs.Members.{Contains_none}
use Rattle.eco_lists.proofs.Tests.{cases_bits, opposite}
use Rattle.eco_trace.specs.declared.clause.Var.{Var}
use Rattle.eco_trace.specs.declared.clause.Lit.{Lit}
use Rattle.eco_trace.specs.Clauses.{IsVarWithin, IsTrueIn, complement, valuation_of}
use Rattle.eco_trace.specs.Freshness.{Lacks}
use Rattle.eco_trace.proofs.ClauseLaws.{same_var}
use Rattle.eco_learn.specs.TakenLits.{literal, count_open, HasNoneOpen, AreKept}
use Rattle.eco_learn.specs.Trails.{IsOpenVar, IsWhole}

-- a place that gets a value is open no longer, and one that loses it is open
pub count_taken : (values : List (Option Bool)) (v : ℕ) (b : Bool) → slice_get values v ≡ Some None → count_open (set values v (Some b)) + 1 ≡ count_open values
count_taken [] v b e = absurd (none-some None e)
count_taken (None ∷ values) zero b e = omega arith
count_taken (Some a ∷ values) zero b e = absurd (none-some a (sym (same_Some (Some a) None e)))
count_taken (None ∷ values) (suc v) b e = let rest = count_taken values v b e in omega (arith, rest)
count_taken (Some a ∷ values) (suc v) b e = count_taken values v b e

pub count_freed : (values : List (Option Bool)) (v : ℕ) (b : Bool) → slice_get values v ≡ Some (Some b) → count_open (set values v None) ≡ count_open values + 1
count_freed [] v b e = absurd (none-some (Some b) e)
count_freed (None ∷ values) zero b e = absurd (none-some b (same_Some None (Some b) e))
count_freed (Some a ∷ values) zero b e = omega arith
count_freed (None ∷ values) (suc v) b e = let rest = count_freed values v b e in omega (arith, rest)
count_freed (Some a ∷ values) (suc v) b e = count_freed values v b e

pub count_one : (values : List (Option Bool)) (v : ℕ) → slice_get values v ≡ Some None → 1 ≤ count_open values
count_one [] v e = absurd (none-some None e)
count_one (None ∷ values) v e = omega arith
count_one (Some a ∷ values) zero e = absurd (none-some a (sym (same_Some (Some a) None e)))
count_one (Some a ∷ values) (suc v) e = count_one values v e

pub count_two : (values : List (Option Bool)) (v w : ℕ) → v < w → slice_get values v ≡ Some None → slice_get values w ≡ Some None → 2 ≤ count_open values
count_two [] v w lt e f = absurd (none-some None e)
count_two (x ∷ values) v zero lt e f = absurd (omega arith)
count_two (None ∷ values) zero (suc w) lt e f = let rest = count_one values w f in omega (arith, rest)
count_two (Some a ∷ values) zero (suc w) lt e f = absurd (none-some a (sym (same_Some (Some a) None e)))
count_two (None ∷ values) (suc v) (suc w) lt e f = let rest = count_two values v w (omega arith) e f in omega (arith, rest)
count_two (Some a ∷ values) (suc v) (suc w) lt e f = count_two values v w (omega arith) e f

pub count_replicate : (n : ℕ) → count_open (replicate n None) ≡ n
count_replicate zero = refl
count_replicate (suc n) = let rest = count_replicate n in omega (arith, rest)

-- a literal is its variable and its sign
pub literal_is : (v : ℕ) (b : Bool) (l : Lit) → v ≡ l.var.0 → b ≡ l.positive → literal v b ≡ l
literal_is v b l e f = ap (λ (n : ℕ). literal n b) e ∙ ap (λ (x : Bool). literal l.var.0 x) f

-- two of the literals with one variable stand at one place
pub one_place : (vars : ℕ) (values : List (Option Bool)) (places : List ℕ) (lits : List Lit) (room : ℕ) → AreKept vars values places lits room → (i j : ℕ) (a b : Lit) → slice_get lits i ≡ Some a → slice_get lits j ≡ Some b → a.var ≡ b.var → i ≡ j
one_place vars values places lits room h i j a b at_i at_j same =
    let here : slice_get places a.var.0 ≡ Some i = h.placed i a at_i in
    let there : slice_get places a.var.0 ≡ Some j = ap (λ (v : Var). slice_get places v.0) same ∙ h.placed j b at_j in
    same_Some i j (sym here ∙ there)

pub kept_apart : (vars : ℕ) (values : List (Option Bool)) (places : List ℕ) (lits : List Lit) (room : ℕ) → AreKept vars values places lits room → AllPairs (λ a b. a.var ≢ b.var) lits
kept_apart vars values places lits room h =
    pairs_from_places (λ (a b : Lit). a.var ≢ b.var) lits (λ i j a b lt at_i at_j same.
    let e : i ≡ j = one_place vars values places lits room h i j a b at_i at_j same in
    absurd (omega arith))

-- variable 0 has no value
zero_open : (vars : ℕ) (values : List (Option Bool)) (places : List ℕ) (lits : List Lit) (room : ℕ) → AreKept vars values places lits room → slice_get values 0 ≡ Some None
zero_open vars values places lits room h =
    let at : (x : Option Bool) × (slice_get values 0 ≡ Some x) = item_at values 0 (omega (arith, h.values_long)) in
    elim at.0 as (λ x. slice_get values 0 ≡ Some x → slice_get values 0 ≡ Some None) [
      | None ↦ λ e. e
      | Some b ↦ λ e.
          let first : 1 ≤ 0 = (All-contains (IsVarWithin vars) lits (literal 0 b) h.within (h.told 0 b e)).first in
          absurd (omega arith)
    ] at.1

pub kept_few : (vars : ℕ) (values : List (Option Bool)) (places : List ℕ) (lits : List Lit) (room : ℕ) → AreKept vars values places lits room → length lits ≤ vars
kept_few vars values places lits room h =
    let one = count_one values 0 (zero_open vars values places lits room h) in
    omega (arith, one, h.count)

-- a literal whose variable none of them has is open
lacking_open : (vars : ℕ) (values : List (Option Bool)) (places : List ℕ) (lits : List Lit) (room : ℕ) (l : Lit) → AreKept vars values places lits room → IsVarWithin vars l → Lacks lits l → slice_get values l.var.0 ≡ Some None
lacking_open vars values places lits room l h w lacks =
    let at : (x : Option Bool) × (slice_get values l.var.0 ≡ Some x) = item_at values l.var.0 (omega (arith, h.values_long, w.last)) in
    elim at.0 as (λ x. slice_get values l.var.0 ≡ Some x → slice_get values l.var.0 ≡ Some None) [
      | None ↦ λ e. e
      | Some b ↦ λ e. absurd (All-contains (λ (k : Lit). k.var ≢ l.var) lits (literal l.var.0 b) lacks (h.told l.var.0 b e) refl)
    ] at.1

-- there is room for one more where a variable is open
pub kept_room : (vars : ℕ) (values : List (Option Bool)) (places : List ℕ) (lits : List Lit) (room : ℕ) (l : Lit) → AreKept vars values places lits room → IsVarWithin vars l → Lacks lits l → length lits < vars
kept_room vars values places lits room l h w lacks =
    let two = count_two values 0 l.var.0 (omega (arith, w.first)) (zero_open vars values places lits room h) (lacking_open vars values places lits room l h w lacks) in
    omega (arith, two, h.count)

-- nothing is known yet
pub kept_begun : (vars len room : ℕ) (values : List (Option Bool)) (places : List ℕ) → len ≡ vars + 1 → vars < 2 ^ 31 → vars ≤ room → values ≡ replicate len None → length places ≡ len → AreKept vars values places [] room
kept_begun vars len room values places e small roomy is long = record {
  values_long = ap length is ∙ length-replicate len None ∙ e;
  places_long = long ∙ e;
  small = small;
  roomy = roomy;
  within = All-nil (IsVarWithin vars);
  told = λ v b at.
      let at' : slice_get (replicate len None) v ≡ Some (Some b) = ap (λ (vs : List (Option Bool)). slice_get vs v) (sym is) ∙ at in
      absurd (none_told len v b at');
  known = λ l m. absurd (Contains_none l m);
  placed = λ place l at. absurd (none-some l at);
  count = let all = ap count_open is ∙ count_replicate len in omega (arith, all);
}
  where
    none_told : (n v : ℕ) (b : Bool) → slice_get (replicate n None) v ≡ Some (Some b) → ⊥
    none_told zero v b at = none-some (Some b) at
    none_told (suc n) zero b at = none-some b (same_Some None (Some b) at)
    none_told (suc n) (suc v) b at = none_told n v b at

-- one more
pub kept_push : (vars : ℕ) (values : List (Option Bool)) (places : List ℕ) (lits : List Lit) (room more : ℕ) (l : Lit) → AreKept vars values places lits room → IsVarWithin vars l → Lacks lits l → room ≤ more → AreKept vars (set values l.var.0 (Some l.positive)) (set places l.var.0 (length lits)) (lits ++ l ∷ []) more
kept_push vars values places lits room more l h w lacks le =
    let open_at = lacking_open vars values places lits room l h w lacks in
    let apart : (k : Lit) → Contains lits k → k.var.0 ≢ l.var.0 = λ k m e. All-contains (λ (x : Lit). x.var ≢ l.var) lits k lacks m (same_var k.var l.var e) in
    record {
      values_long = length-set values l.var.0 (Some l.positive) ∙ h.values_long;
      places_long = length-set places l.var.0 (length lits) ∙ h.places_long;
      small = h.small;
      roomy = omega (arith, h.roomy);
      within = All-push (IsVarWithin vars) lits l h.within w;
      told = λ v b at.
          elim (set_cases values l.var.0 (Some l.positive) v (Some b) at) [
            | inl here ↦
                let value : b ≡ l.positive = same_Some b l.positive here.1 in
                let same : literal v b ≡ l = literal_is v b l here.0 value in
                subst (λ (k : Lit). Contains (lits ++ l ∷ []) k) (sym same) (Contains-push lits l)
            | inr other ↦ Contains-append_left lits (l ∷ []) (literal v b) (h.told v b other.1)
          ];
      known = λ k m.
          elim (Contains-push_cases lits l k m) [
            | inl old ↦ slice_get-set_other values l.var.0 k.var.0 (Some l.positive) (apart k old) ∙ h.known k old
            | inr new ↦ subst (λ (x : Lit). slice_get (set values l.var.0 (Some l.positive)) x.var.0 ≡ Some (Some x.positive)) new (slice_get-set_same values l.var.0 (Some l.positive) (omega (arith, h.values_long, w.last)))
          ];
      placed = λ place k at.
          elim (push_cases lits l place k at) [
            | inl old ↦ slice_get-set_other places l.var.0 k.var.0 (length lits) (apart k (Contains_at lits place k old)) ∙ h.placed place k old
            | inr new ↦
                let there : slice_get (set places l.var.0 (length lits)) l.var.0 ≡ Some (length lits) = slice_get-set_same places l.var.0 (length lits) (omega (arith, h.places_long, w.last)) in
                ap (λ (x : Lit). slice_get (set places l.var.0 (length lits)) x.var.0) new.1 ∙ there ∙ ap Some (sym new.0)
          ];
      count =
          let less = count_taken values l.var.0 l.positive open_at in
          let long = length-append lits (l ∷ []) in
          omega (arith, less, long, h.count);
    }

-- the last one is taken back
pub kept_pop : (vars : ℕ) (values : List (Option Bool)) (places : List ℕ) (lits : List Lit) (room : ℕ) (l : Lit) → AreKept vars values places (lits ++ l ∷ []) room → AreKept vars (set values l.var.0 None) places lits room
kept_pop vars values places lits room l h =
    let at_last : slice_get (lits ++ l ∷ []) (length lits) ≡ Some l = slice_get-push_last lits l in
    let apart : (k : Lit) → Contains lits k → k.var.0 ≢ l.var.0 = λ k m e.
    let at : (p : ℕ) × (slice_get lits p ≡ Some k) = place_of lits k m in
    let same : at.0 ≡ length lits = one_place vars values places (lits ++ l ∷ []) room h at.0 (length lits) k l (slice_get-append_left lits (l ∷ []) at.0 k at.1) at_last (same_var k.var l.var e) in
    let inside = slice_get_within lits at.0 k at.1 in
    absurd (omega (arith, same, inside))
    in
    record {
      values_long = length-set values l.var.0 None ∙ h.values_long;
      places_long = h.places_long;
      small = h.small;
      roomy = h.roomy;
      within = λ k d lt. subst (IsVarWithin vars) (get_or-append lits (l ∷ []) d k lt) (h.within k d (omega (arith, length-append lits (l ∷ []))));
      told = λ v b at.
          elim (set_cases values l.var.0 None v (Some b) at) [
            | inl here ↦ absurd (none-some b (sym here.1))
            | inr other ↦
                elim (Contains-push_cases lits l (literal v b) (h.told v b other.1)) [
                  | inl old ↦ old
                  | inr new ↦ absurd (other.0 (ap (λ (x : Lit). x.var.0) (sym new)))
                ]
          ];
      known = λ k m. slice_get-set_other values l.var.0 k.var.0 None (apart k m) ∙ h.known k (Contains-append_left lits (l ∷ []) k m);
      placed = λ place k at. h.placed place k (slice_get-append_left lits (l ∷ []) place k at);
      count =
          let more = count_freed values l.var.0 l.positive (h.known l (Contains-push lits l)) in
          let long = length-append lits (l ∷ []) in
          omega (arith, more, long, h.count);
    }

-- a variable without a value is open
pub open_var : (vars : ℕ) (values : List (Option Bool)) (places : List ℕ) (lits : List Lit) (room : ℕ) (v : ℕ) → AreKept vars values places lits room → 0 < v → slice_get values v ≡ Some None → IsOpenVar vars lits (record { 0 = v })
open_var vars values places lits room v h lt at = record {
  within = λ l e.
      let same : l.var.0 ≡ v = ap (λ (x : Var). x.0) e in
      let inside = slice_get_within values v None at in
      record { first = omega (arith, same); last = omega (arith, same, inside, h.values_long) };
  lacking = λ l e k d within f.
      let there : slice_get values (get_or lits k d).var.0 ≡ Some (Some (get_or lits k d).positive) = h.known (get_or lits k d) (Contains-get_or lits k d within) in
      let same : (get_or lits k d).var.0 ≡ v = ap (λ (x : Var). x.0) (f ∙ e) in
      let none : slice_get values (get_or lits k d).var.0 ≡ Some None = ap (slice_get values) same ∙ at in
      none-some (get_or lits k d).positive (same_Some None (Some (get_or lits k d).positive) (sym none ∙ there));
}

-- where each variable has a value, each has a literal
pub whole_lits : (vars : ℕ) (values : List (Option Bool)) (places : List ℕ) (lits : List Lit) (room : ℕ) → AreKept vars values places lits room → HasNoneOpen values → IsWhole vars lits
whole_lits vars values places lits room h full l w =
    let inside : l.var.0 < length values = omega (arith, w.last, h.values_long) in
    let at : (x : Option Bool) × (slice_get values l.var.0 ≡ Some x) = item_at values l.var.0 inside in
    elim at.0 as (λ x. slice_get values l.var.0 ≡ Some x → Contains lits l ⊎ Contains lits (complement l)) [
      | None ↦ λ e. absurd (full l.var.0 (omega (arith, w.first)) inside e)
      | Some b ↦ λ e.
          let told = h.told l.var.0 b e in
          elim (cases_bits b l.positive) [
            | inl same ↦ inl (subst (λ (x : Bool). Contains lits (literal l.var.0 x)) same told)
            | inr other ↦ inr (subst (λ (x : Bool). Contains lits (literal l.var.0 x)) (opposite b l.positive other) told)
          ]
    ] at.1

-- the bits give each literal's variable its value
pub bits_true : (vars : ℕ) (values : List (Option Bool)) (places : List ℕ) (lits : List Lit) (room : ℕ) (l : Lit) → AreKept vars values places lits room → Contains lits l → IsTrueIn (valuation_of (map (λ value. unwrap_or value false) (drop 1 values))) l
bits_true vars values places lits room l h m =
    let w = All-contains (IsVarWithin vars) lits l h.within m in
    read values l.var.0 l.positive w.first (h.known l m)
  where
    read : (values : List (Option Bool)) (v : ℕ) (b : Bool) → 1 ≤ v → slice_get values v ≡ Some (Some b) → valuation_of (map (λ value. unwrap_or value false) (drop 1 values)) v ≡ b
    read [] v b le e = absurd (none-some (Some b) e)
    read (x ∷ values) zero b le e = absurd (omega arith)
    read (x ∷ values) (suc v) b le e =
        let at : slice_get (map (λ (value : Option Bool). unwrap_or value false) values) v ≡ Some b = slice_get-map (λ (value : Option Bool). unwrap_or value false) values v ∙ ap (option_map (λ (value : Option Bool). unwrap_or value false)) e in
        let back : v ≡ suc v - 1 = omega arith in
        subst (λ (n : ℕ). get_or (map (λ (value : Option Bool). unwrap_or value false) values) n false ≡ b) back (get_or_from_slice_get (map (λ (value : Option Bool). unwrap_or value false) values) v b false at)

-- there is one value more than there are variables
pub bits_all : (vars : ℕ) (values : List (Option Bool)) (places : List ℕ) (lits : List Lit) (room : ℕ) → AreKept vars values places lits room → length (map (λ value. unwrap_or value false) (drop 1 values)) ≡ vars
bits_all vars values places lits room h =
    let long : length (map (λ (value : Option Bool). unwrap_or value false) (drop 1 values)) ≡ length values - 1 = simp (length-map, length-drop) in
    omega (arith, long, h.values_long)
