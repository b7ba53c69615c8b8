-- The turns of a target's candidates among the first nets.
use Rattle.std.proofs.Common.{◌≡◌, ℕ, ◌+◌, ◌<◌, Bool, true, false, List, [], ◌∷◌, ◌++◌, Some, sym, ◌∙◌, ap, subst, inl, inr, arith}
use Rattle.std.specs.Prelude.{is_some}
use Rattle.std.specs.List.{All, Contains, IsDistinct, slice_get}
use Rattle.std.specs.Str.{bytes_eq}
use Rattle.std.proofs.lemmas.Bool.{cases_lt, false≢true}
use Rattle.std.proofs.lemmas.List.{map_push}
use Rattle.std.proofs.lemmas.List.Elements.{All-contains, All-nil, All-push, All-weaker, Contains-append_left, Contains-push}
use Rattle.std.proofs.lemmas.Option.{slice_get_within, get_or_from_slice_get, same_Some}
use Rattle.eco_lists.proofs.Members.{Contains_cases, Contains_none, map-Contains}
use Rattle.eco_meaning.specs.Circuit.{Circuit, names}
use Rattle.eco_meaning.specs.Cost.{Weights, weight_of, IsCandidate}
use Rattle.eco_meaning.specs.Patch.{OfTarget}
use Rattle.eco_netlist.specs.Netlists.{name_at}
use Rattle.eco_netlist.proofs.FanNames.{place_injective}
use Rattle.eco_netlist.proofs.NameSets.{distinct_none, distinct_from_new, IsDistinct-append}
use Rattle.eco_query.specs.declared.order.Turn.{Turn}
use Rattle.eco_query.specs.Candidates.{IsOpen, IsTurn, AreFirstTurns, names_in}

-- a net that is open to a target and has a weight has a turn
pub turn_is : (f : Circuit) (w : Weights) (d i : ℕ) (turn : Turn) → slice_get (names f) turn.net.0 ≡ Some turn.name.now → weight_of f w d (name_at (names f) turn.net.0) ≡ Some turn.weight → OfTarget f i (λ earlier target. IsOpen f earlier (name_at (names f) turn.net.0)) → IsTurn f w d i turn
turn_is f w d i turn named weighed open_to =
    let same : name_at (names f) turn.net.0 ≡ turn.name.now = get_or_from_slice_get (names f) turn.net.0 turn.name.now [] named in
    let weight : weight_of f w d turn.name.now ≡ Some turn.weight = ap (weight_of f w d) (sym same) ∙ weighed in
    record {
      named = named;
      weighed = weight;
      candidate = λ before target behind targets place.
          let is = subst (IsOpen f before) same (open_to before target behind targets place) in
          record { signal = is.0; weighted = ap is_some weight; apart = is.1 };
    }

module _ (f : Circuit) (w : Weights) (d i : ℕ) (marks : List Bool) where
  -- no net, no turn
  pub no_turns : AreFirstTurns f w d i marks 0 []
  no_turns = record {
    sound = All-nil (IsTurn f w d i);
    first = All-nil (λ (turn : Turn). turn.net.0 < 0);
    unmarked = All-nil (λ (turn : Turn). slice_get marks turn.net.0 ≡ Some false);
    complete = λ net name below at unmarked. absurd (omega arith);
    distinct = distinct_none;
  }

  -- the candidates among one more net, where it is none or has a mark
  pub turns_skip : (n : ℕ) (turns : List Turn) (mark : Bool) → slice_get marks n ≡ Some mark → OfTarget f i (λ earlier target. IsCandidate f w d earlier (name_at (names f) n) → mark ≡ true) → AreFirstTurns f w d i marks n turns → AreFirstTurns f w d i marks (n + 1) turns
  turns_skip n turns mark marked none are = record {
    sound = are.sound;
    first = All-weaker (λ (turn : Turn). turn.net.0 < n) (λ (turn : Turn). turn.net.0 < n + 1) (λ turn below. omega arith) turns are.first;
    unmarked = are.unmarked;
    complete = λ net name below at unmarked.
        elim (cases_lt net n) [
          | inl earlier ↦ are.complete net name earlier at unmarked
          | inr later ↦ λ before target behind targets place is.
              let here : net ≡ n = omega arith in
              let same : name_at (names f) n ≡ name = ap (name_at (names f)) (sym here) ∙ get_or_from_slice_get (names f) net name [] at in
              let yes : mark ≡ true = none before target behind targets place (subst (IsCandidate f w d before) (sym same) is) in
              let no : false ≡ mark = same_Some false mark (sym unmarked ∙ ap (slice_get marks) here ∙ marked) in
              absurd (false≢true (no ∙ yes))
        ];
    distinct = are.distinct;
  }

  -- the name of a net that comes later stands at no earlier turn
  name_new : (n : ℕ) (turns : List Turn) (turn : Turn) → IsDistinct bytes_eq (names f) → IsTurn f w d i turn → turn.net.0 ≡ n → AreFirstTurns f w d i marks n turns → Contains (names_in turns) turn.name.now → ⊥
  name_new n turns turn distinct is here are c =
      let other = map-Contains (λ (t : Turn). t.name.now) turns turn.name.now c in
      let below = All-contains (λ (t : Turn). t.net.0 < n) turns other.0 are.first other.1 in
      let named = (All-contains (IsTurn f w d i) turns other.0 are.sound other.1).named in
      let same : name_at (names f) other.0.net.0 ≡ name_at (names f) turn.net.0 =
      get_or_from_slice_get (names f) other.0.net.0 other.0.name.now [] named ∙ other.2
      ∙ sym (get_or_from_slice_get (names f) turn.net.0 turn.name.now [] is.named) in
      let place = place_injective (names f) other.0.net.0 turn.net.0 distinct
      (slice_get_within (names f) other.0.net.0 other.0.name.now named)
      (slice_get_within (names f) turn.net.0 turn.name.now is.named) same in
      absurd (omega arith)

  -- the candidates among one more net, where it is one and has no mark
  pub turns_more : (n : ℕ) (turns longer : List Turn) (turn : Turn) → IsDistinct bytes_eq (names f) → IsTurn f w d i turn → turn.net.0 ≡ n → slice_get marks turn.net.0 ≡ Some false → longer ≡ turns ++ turn ∷ [] → AreFirstTurns f w d i marks n turns → AreFirstTurns f w d i marks (n + 1) longer
  turns_more n turns longer turn distinct is here unmarked added are =
      let name = turn.name.now in
      let named : names_in longer ≡ names_in turns ++ name ∷ [] =
      ap names_in added ∙ map_push (λ (t : Turn). t.name.now) turns turn in
      record {
        sound = subst (All (IsTurn f w d i)) (sym added) (All-push (IsTurn f w d i) turns turn are.sound is);
        first = subst (All (λ (t : Turn). t.net.0 < n + 1)) (sym added)
            (All-push (λ (t : Turn). t.net.0 < n + 1) turns turn
            (All-weaker (λ (t : Turn). t.net.0 < n) (λ (t : Turn). t.net.0 < n + 1) (λ t below. omega arith) turns are.first)
            (omega arith));
        unmarked = subst (All (λ (t : Turn). slice_get marks t.net.0 ≡ Some false)) (sym added)
            (All-push (λ (t : Turn). slice_get marks t.net.0 ≡ Some false) turns turn are.unmarked unmarked);
        complete = λ net other below at no_mark before target behind targets place candidate.
            subst (λ l. Contains l other) (sym named)
            (elim (cases_lt net n) [
              | inl earlier ↦ Contains-append_left (names_in turns) (name ∷ []) other (are.complete net other earlier at no_mark before target behind targets place candidate)
              | inr later ↦ let at_turn : net ≡ turn.net.0 = omega arith in
                  let same : name ≡ other =
                  sym (get_or_from_slice_get (names f) turn.net.0 name [] is.named) ∙ ap (name_at (names f)) (sym at_turn)
                  ∙ get_or_from_slice_get (names f) net other [] at in
                  subst (Contains (names_in turns ++ name ∷ [])) same (Contains-push (names_in turns) name)
            ]);
        distinct = subst (IsDistinct bytes_eq) (sym named)
            (IsDistinct-append (names_in turns) (name ∷ []) are.distinct
            (distinct_from_new name [] (Contains_none name) distinct_none)
            (λ other old new.
            elim (Contains_cases name other [] new) [
              | inl same ↦ name_new n turns turn distinct is here are (subst (Contains (names_in turns)) (sym same) old)
              | inr none ↦ Contains_none other none
            ]));
      }
