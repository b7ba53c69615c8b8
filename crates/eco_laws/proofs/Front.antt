-- How a certified front begins, goes on and ends: proofs.
use Rattle.std.proofs.Common.{◌≡◌, ◌≢◌, ℕ, ◌+◌, inl, inr, List, [], ◌∷◌, ◌++◌, Some, refl, sym, ◌∙◌, ap, subst, arith, zero, suc, ◌-◌, drop}
use Rattle.std.specs.List.{slice_get, All, AllPairs, Contains}
use Rattle.std.proofs.lemmas.Bool.{cases_lt, cases_order}
use Rattle.std.proofs.lemmas.List.{map-append}
use Rattle.std.proofs.lemmas.List.Elements.{All-nil, All-push, All-weaker, All-contains, All-contains_itself, Contains-append_cases, Contains-append_left, Contains-append_right, Contains-push, Contains-push_cases}
use Rattle.std.proofs.lemmas.Option.{same_Some, slice_get_within}
use Rattle.eco_lists.proofs.Places.{place_of, Contains_at, All_at, pairs_push, pairs_from_places, pair_at}
use Rattle.eco_lists.proofs.Members.{Contains-map}
use Rattle.eco_meaning.specs.Circuit.{Circuit}
use Rattle.eco_meaning.specs.Meaning.{Goal}
use Rattle.eco_meaning.specs.Cost.{GoesBefore}
use Rattle.eco_meaning.specs.Choice.{IsConflict, Suffices, Precedes, IsLeft}
use Rattle.eco_laws.specs.Witnesses.{Witness, names_of, IsShown}
use Rattle.eco_laws.specs.Front.{HasTurnBefore, HasTurnFrom, Working, IsFront, WorkingIsListed, FrontBegins, FrontSkips, FrontKeeps, FrontEnds, TurnsAreDistinct}
use Rattle.eco_laws.proofs.Bases.{more_suffice, one_way}
use Rattle.eco_laws.proofs.Witnesses.{conflict_on_fewer}

pub turns_distinct : TurnsAreDistinct
turns_distinct f w input_weight earlier paid turns are =
    pairs_from_places (λ a b. a ≢ b) turns (λ i j a b less at_a at_b same.
    let twice : GoesBefore f w input_weight a a = subst (GoesBefore f w input_weight a) (sym same) (pair_at (GoesBefore f w input_weight) turns i j a b are.ordered less at_a at_b) in
    one_way f w input_weight a a twice twice)

-- each signal has one turn
pub one_turn : (turns : List (List ℕ)) (i j : ℕ) (name : List ℕ) → AllPairs (λ a b. a ≢ b) turns → slice_get turns i ≡ Some name → slice_get turns j ≡ Some name → i ≡ j
one_turn turns i j name apart at_i at_j =
    elim (cases_order i j) [
      | inl same ↦ same
      | inr differ ↦ elim differ [
        | inl less ↦ absurd (pair_at (λ a b. a ≢ b) turns i j name name apart less at_i at_j refl)
        | inr more ↦ absurd (pair_at (λ a b. a ≢ b) turns j i name name apart more at_j at_i refl)
      ]
    ]

-- the elements from a place on, by their places
slice_get-drop : {X : Type 0} (n : ℕ) (xs : List X) (k j : ℕ) → j ≡ n + k → slice_get (drop n xs) k ≡ slice_get xs j
slice_get-drop zero xs k j is = ap (slice_get xs) (omega arith)
slice_get-drop (suc n) [] k j is = refl
slice_get-drop (suc n) (x ∷ xs) k zero is = absurd (omega arith)
slice_get-drop (suc n) (x ∷ xs) k (suc j) is = slice_get-drop n xs k j (omega arith)

pub working_is_listed : WorkingIsListed
working_is_listed base turns place name = (to_list, from_list)
  where
    to_list : Working base turns place name → Contains (base ++ drop place turns) name
    to_list (inl among) = Contains-append_left base (drop place turns) name among
    to_list (inr (j, from, at)) =
        Contains-append_right base (drop place turns) name
        (Contains_at (drop place turns) (j - place) name (slice_get-drop place turns (j - place) j (omega arith) ∙ at))

    from_list : Contains (base ++ drop place turns) name → Working base turns place name
    from_list among =
        elim (Contains-append_cases base (drop place turns) name among) [
          | inl in_base ↦ inl in_base
          | inr later ↦
              let (k, at) = place_of (drop place turns) name later in
              inr (place + k, omega arith, sym (slice_get-drop place turns k (place + k) refl) ∙ at)
        ]

-- what has its turn from a place on stands behind what has it before the place
turns_apart : (turns : List (List ℕ)) (place : ℕ) (a b : List ℕ) → HasTurnBefore turns place a → HasTurnFrom turns place b → Precedes turns a b
turns_apart turns place a b (i, before, at_i) (j, from, at_j) = (i, j, omega arith, at_i, at_j)

-- what is left at a turn before the place stays so when a signal behind it is kept
left_stays : (paid turns kept : List (List ℕ)) (place : ℕ) (name new other : List ℕ) → HasTurnBefore turns place name → HasTurnFrom turns place new → IsLeft paid turns (kept ++ new ∷ []) name other → IsLeft paid turns kept name other
left_stays paid turns kept place name new other before from (inl is_paid) = inl is_paid
left_stays paid turns kept place name new other before from (inr (inr behind)) = inr (inr behind)
left_stays paid turns kept place name new other before from (inr (inl (among, first))) =
    elim (Contains-push_cases kept new other among) [
      | inl is_kept ↦ inr (inl (is_kept, first))
      | inr same ↦ inr (inr (turns_apart turns place name other before (subst (HasTurnFrom turns place) same from)))
    ]

-- what is left at the turn of the place itself is among what the front kept and all behind it
left_works : (paid turns kept : List (List ℕ)) (place : ℕ) (name other : List ℕ) → AllPairs (λ a b. a ≢ b) turns → slice_get turns place ≡ Some name → IsLeft paid turns (kept ++ name ∷ []) name other → Working (paid ++ kept) turns (place + 1) other
left_works paid turns kept place name other apart at (inl is_paid) = inl (Contains-append_left paid kept other is_paid)
left_works paid turns kept place name other apart at (inr (inr (i, j, less, at_i, at_j))) =
    let same : i ≡ place = one_turn turns i place name apart at_i at in
    inr (j, omega arith, at_j)
left_works paid turns kept place name other apart at (inr (inl (among, (i, j, less, at_i, at_j)))) =
    elim (Contains-push_cases kept name other among) [
      | inl is_kept ↦ inl (Contains-append_right paid kept other is_kept)
      | inr is_name ↦
          let at_i' : slice_get turns i ≡ Some name = at_i ∙ ap Some (sym is_name) in
          let same : i ≡ j = one_turn turns i j name apart at_i' at_j in
          absurd (omega arith)
    ]

-- what works from a place on works behind it with the signal of that place
works_kept : (paid turns kept : List (List ℕ)) (place : ℕ) (name other : List ℕ) → slice_get turns place ≡ Some name → Working (paid ++ kept) turns place other → Working (paid ++ (kept ++ name ∷ [])) turns (place + 1) other
works_kept paid turns kept place name other at (inl among) =
    elim (Contains-append_cases paid kept other among) [
      | inl is_paid ↦ inl (Contains-append_left paid (kept ++ name ∷ []) other is_paid)
      | inr is_kept ↦ inl (Contains-append_right paid (kept ++ name ∷ []) other (Contains-append_left kept (name ∷ []) other is_kept))
    ]
works_kept paid turns kept place name other at (inr (j, from, at_j)) =
    elim (cases_lt place j) [
      | inl less ↦ inr (j, omega arith, at_j)
      | inr least ↦
          let here : j ≡ place = omega arith in
          let same : name ≡ other = same_Some name other (sym at ∙ ap (slice_get turns) (sym here) ∙ at_j) in
          inl (Contains-append_right paid (kept ++ name ∷ []) other (subst (Contains (kept ++ name ∷ [])) same (Contains-push kept name)))
    ]

-- all that have a turn have one from the first on
pub begins : FrontBegins
begins f goal p earlier target paid turns enough = record {
  before = All-nil (HasTurnBefore turns 0);
  ordered = λ i j d less within. absurd (omega arith);
  shown = All-nil (IsShown f goal p earlier target paid turns []);
  enough =
      more_suffice f goal p earlier target (Contains (paid ++ turns)) (Working (paid ++ []) turns 0)
      (λ name among. elim (Contains-append_cases paid turns name among) [
        | inl is_paid ↦ inl (Contains-append_left paid [] name is_paid)
        | inr turn ↦ let (j, at) = place_of turns name turn in inr (j, omega arith, at)
      ])
      enough;
}

pub skips : FrontSkips
skips f goal p earlier target paid turns place later witnesses front no_less enough = record {
  before = All-weaker (HasTurnBefore turns place) (HasTurnBefore turns later) (λ name turn. (turn.0, omega (arith, turn.1), turn.2)) (names_of witnesses) front.before;
  ordered = front.ordered;
  shown = front.shown;
  enough = enough;
}

pub ends : FrontEnds
ends f goal p earlier target paid turns place witnesses behind front = record {
  members = All-weaker (HasTurnBefore turns place) (Contains turns) (λ name turn. Contains_at turns turn.0 name turn.2) (names_of witnesses) front.before;
  ordered = front.ordered;
  shown = front.shown;
  enough =
      more_suffice f goal p earlier target (Working (paid ++ names_of witnesses) turns place) (Contains (paid ++ names_of witnesses))
      (λ name works. elim works [
        | inl among ↦ among
        | inr (j, from, at) ↦ absurd (omega (arith, slice_get_within turns j name at))
      ])
      front.enough;
}

-- the witnesses are shown beside one more, which is kept at the place
all_shown : (f : Circuit) (goal : Goal) (p : Circuit) (earlier : List (List ℕ)) (target : List ℕ) (paid turns : List (List ℕ)) (place : ℕ) (witnesses : List Witness) (w : Witness) → AllPairs (λ a b. a ≢ b) turns → IsFront f goal p earlier target paid turns place witnesses → slice_get turns place ≡ Some w.name → IsConflict f goal p earlier target (Working (paid ++ names_of witnesses) turns (place + 1)) w.one w.zero → All (IsShown f goal p earlier target paid turns (names_of witnesses ++ w.name ∷ [])) (witnesses ++ w ∷ [])
all_shown f goal p earlier target paid turns place witnesses w apart front at conflict =
    let old = names_of witnesses in
    let new = old ++ w.name ∷ [] in
    let here : HasTurnFrom turns place w.name = (place, omega arith, at) in
    All-push (IsShown f goal p earlier target paid turns new) witnesses w
    (All-weaker (Contains witnesses) (IsShown f goal p earlier target paid turns new)
    (λ v in_front.
    conflict_on_fewer f goal p earlier target (IsLeft paid turns new v.name) (IsLeft paid turns old v.name) v.one v.zero
    (λ other. left_stays paid turns old place v.name w.name other (All-contains (HasTurnBefore turns place) old v.name front.before (Contains-map (λ (v : Witness). v.name) witnesses v in_front)) here)
    (All-contains (IsShown f goal p earlier target paid turns old) witnesses v front.shown in_front))
    witnesses (All-contains_itself witnesses))
    (conflict_on_fewer f goal p earlier target (IsLeft paid turns new w.name) (Working (paid ++ old) turns (place + 1)) w.one w.zero
    (λ other. left_works paid turns old place w.name other apart at) conflict)

-- the parts of a front, over the list of its names
record AreParts (f : Circuit) (goal : Goal) (p : Circuit) (earlier : List (List ℕ)) (target : List ℕ) (paid turns : List (List ℕ)) (place : ℕ) (witnesses : List Witness) (kept : List (List ℕ)) : Type 0 where
  before : All (HasTurnBefore turns place) kept
  ordered : AllPairs (Precedes turns) kept
  shown : All (IsShown f goal p earlier target paid turns kept) witnesses
  enough : Suffices f goal p earlier target (Working (paid ++ kept) turns place)

pub keeps : FrontKeeps
keeps f goal p earlier target paid turns place witnesses w apart front at conflict =
    let old = names_of witnesses in
    let here : HasTurnFrom turns place w.name = (place, omega arith, at) in
    let names : old ++ w.name ∷ [] ≡ names_of (witnesses ++ w ∷ []) = sym (map-append (λ (v : Witness). v.name) witnesses (w ∷ [])) in
    let moved : AreParts f goal p earlier target paid turns (place + 1) (witnesses ++ w ∷ []) (names_of (witnesses ++ w ∷ [])) = subst (AreParts f goal p earlier target paid turns (place + 1) (witnesses ++ w ∷ [])) names (record {
      before =
          All-push (HasTurnBefore turns (place + 1)) old w.name
          (All-weaker (HasTurnBefore turns place) (HasTurnBefore turns (place + 1)) (λ name turn. (turn.0, omega (arith, turn.1), turn.2)) old front.before)
          (place, omega arith, at);
      ordered = pairs_push (Precedes turns) old w.name front.ordered (λ k name at_k. turns_apart turns place name w.name (All_at (HasTurnBefore turns place) old k name front.before at_k) here);
      shown = all_shown f goal p earlier target paid turns place witnesses w apart front at conflict;
      enough =
          more_suffice f goal p earlier target (Working (paid ++ old) turns place) (Working (paid ++ (old ++ w.name ∷ [])) turns (place + 1))
          (λ name. works_kept paid turns old place w.name name at) front.enough;
    }) in
    record { before = moved.before; ordered = moved.ordered; shown = moved.shown; enough = moved.enough }
