-- What is kept by turns is the greedy choice: proofs, for any test that more signals pass where fewer do.
use Rattle.std.proofs.Common.{◌≡◌, ◌≢◌, inl, inr, ℕ, zero, suc, List, [], ◌∷◌, ◌++◌, refl, sym, subst, arith}
use Rattle.std.specs.List.{All, AllPairs, Contains}
use Rattle.std.proofs.lemmas.List.Elements.{All-nil, All-cons, All-weaker, All-contains, All-contains_itself, Contains-append_cases, Contains-append_left, Contains-append_right}
use Rattle.std.proofs.lemmas.Option.{same_Some}
use Rattle.eco_lists.proofs.Places.{place_of, Contains_at, pairs_from_places, pair_at, pairs_cons}
use Rattle.eco_lists.proofs.Members.{Contains_first, Contains_later, Contains_cases, Contains_none, only_one, AllPairs-tail, AllPairs-head}
use Rattle.eco_meaning.specs.Choice.{Suffices, Precedes, IsLeft}
use Rattle.eco_laws.specs.ByTurns.{SetTest, IsKeptByTurns, KeptByTurnsIsGreedy}
use Rattle.eco_laws.proofs.Bases.{more_suffice}

-- turns in a list with one more at its front
stands_later : (first : List ℕ) (turns : List (List ℕ)) (a b : List ℕ) → Precedes turns a b → Precedes (first ∷ turns) a b
stands_later first turns a b (i, j, less, at_a, at_b) = (suc i, suc j, omega arith, at_a, at_b)

stands_first : (first : List ℕ) (turns : List (List ℕ)) (b : List ℕ) → Contains turns b → Precedes (first ∷ turns) first b
stands_first first turns b among = let (j, at) = place_of turns b among in (zero, suc j, omega arith, refl, at)

stands_behind : (first : List ℕ) (turns : List (List ℕ)) (a b : List ℕ) → first ≢ a → Precedes (first ∷ turns) a b → Precedes turns a b
stands_behind first turns a b differ (zero, j, less, at_a, at_b) = absurd (differ (same_Some first a at_a))
stands_behind first turns a b differ (suc i, zero, less, at_a, at_b) = absurd (omega arith)
stands_behind first turns a b differ (suc i, suc j, less, at_a, at_b) = (i, j, omega arith, at_a, at_b)

-- the second of two stands behind the first of all
second_behind : (first : List ℕ) (turns : List (List ℕ)) (a b : List ℕ) → Precedes (first ∷ turns) a b → Contains turns b
second_behind first turns a b (i, zero, less, at_a, at_b) = absurd (omega arith)
second_behind first turns a b (i, suc j, less, at_a, at_b) = Contains_at turns j b at_b

-- the greedy choice for a test
pub record IsGreedyFor (IsEnough : SetTest) (paid turns kept : List (List ℕ)) : Type 0 where
  pub members : All (Contains turns) kept
  pub ordered : AllPairs (Precedes turns) kept
  pub needed : All (λ name. IsEnough (IsLeft paid turns kept name) → ⊥) kept
  pub dropped : (name : List ℕ) → Contains turns name → (Contains kept name → ⊥) → IsEnough (IsLeft paid turns kept name)

module _ (IsEnough : SetTest) (grows : (Fewer More : List ℕ → Type 0) → ((name : List ℕ) → Fewer name → More name) → IsEnough Fewer → IsEnough More) where
  -- the first signal is left out
  leaves_first : (paid : List (List ℕ)) (first : List ℕ) (turns kept : List (List ℕ)) → AllPairs (λ a b. a ≢ b) (first ∷ turns) → IsEnough (Contains (paid ++ turns)) → IsGreedyFor IsEnough paid turns kept → IsGreedyFor IsEnough paid (first ∷ turns) kept
  leaves_first paid first turns kept distinct enough greedy =
      let apart : (name : List ℕ) → Contains turns name → first ≢ name = AllPairs-head (λ a b. a ≢ b) first turns distinct in
      let behind : (name : List ℕ) → Contains kept name → Contains turns name = λ name. All-contains (Contains turns) kept name greedy.members in
      record {
        members = All-weaker (Contains turns) (Contains (first ∷ turns)) (λ name. Contains_later first name turns) kept greedy.members;
        ordered = pairs_from_places (Precedes (first ∷ turns)) kept (λ i j a b less at_a at_b. stands_later first turns a b (pair_at (Precedes turns) kept i j a b greedy.ordered less at_a at_b));
        needed =
            All-weaker (Contains kept) (λ name. IsEnough (IsLeft paid (first ∷ turns) kept name) → ⊥)
            (λ name in_kept passes.
            All-contains (λ name. IsEnough (IsLeft paid turns kept name) → ⊥) kept name greedy.needed in_kept
            (grows (IsLeft paid (first ∷ turns) kept name) (IsLeft paid turns kept name)
            (λ other left. left_behind other name (λ other_kept. apart other (behind other other_kept)) (apart name (behind name in_kept)) left) passes))
            kept (All-contains_itself kept);
        dropped = λ name turn unkept.
            elim (Contains_cases first name turns turn) [
              | inl same ↦
                  grows (Contains (paid ++ turns)) (IsLeft paid (first ∷ turns) kept name)
                  (λ other among. elim (Contains-append_cases paid turns other among) [
                    | inl is_paid ↦ inl is_paid
                    | inr later ↦ inr (inr (subst (λ a. Precedes (first ∷ turns) a other) same (stands_first first turns other later)))
                  ])
                  enough
              | inr later ↦
                  grows (IsLeft paid turns kept name) (IsLeft paid (first ∷ turns) kept name) (left_later name) (greedy.dropped name later unkept)
            ];
      }
    where
      left_behind : (other name : List ℕ) → (Contains kept other → first ≢ other) → first ≢ name → IsLeft paid (first ∷ turns) kept name other → IsLeft paid turns kept name other
      left_behind other name differ_other differ (inl is_paid) = inl is_paid
      left_behind other name differ_other differ (inr (inl (is_kept, stands))) = inr (inl (is_kept, stands_behind first turns other name (differ_other is_kept) stands))
      left_behind other name differ_other differ (inr (inr stands)) = inr (inr (stands_behind first turns name other differ stands))

      left_later : (name other : List ℕ) → IsLeft paid turns kept name other → IsLeft paid (first ∷ turns) kept name other
      left_later name other (inl is_paid) = inl is_paid
      left_later name other (inr (inl (is_kept, stands))) = inr (inl (is_kept, stands_later first turns other name stands))
      left_later name other (inr (inr stands)) = inr (inr (stands_later first turns name other stands))

  -- the first signal is kept
  keeps_first : (paid : List (List ℕ)) (first : List ℕ) (turns rest : List (List ℕ)) → AllPairs (λ a b. a ≢ b) (first ∷ turns) → (IsEnough (Contains (paid ++ turns)) → ⊥) → IsGreedyFor IsEnough (paid ++ first ∷ []) turns rest → IsGreedyFor IsEnough paid (first ∷ turns) (first ∷ rest)
  keeps_first paid first turns rest distinct short greedy =
      let apart : (name : List ℕ) → Contains turns name → first ≢ name = AllPairs-head (λ a b. a ≢ b) first turns distinct in
      let behind : (name : List ℕ) → Contains rest name → Contains turns name = λ name. All-contains (Contains turns) rest name greedy.members in
      record {
        members =
            All-cons (Contains (first ∷ turns)) first rest (Contains_first first turns)
            (All-weaker (Contains turns) (Contains (first ∷ turns)) (λ name. Contains_later first name turns) rest greedy.members);
        ordered =
            pairs_cons (Precedes (first ∷ turns)) first rest
            (pairs_from_places (Precedes (first ∷ turns)) rest (λ i j a b less at_a at_b. stands_later first turns a b (pair_at (Precedes turns) rest i j a b greedy.ordered less at_a at_b)))
            (λ name in_rest. stands_first first turns name (behind name in_rest));
        needed =
            All-cons (λ name. IsEnough (IsLeft paid (first ∷ turns) (first ∷ rest) name) → ⊥) first rest
            (λ passes. short (grows (IsLeft paid (first ∷ turns) (first ∷ rest) first) (Contains (paid ++ turns)) (left_of_first apart) passes))
            (All-weaker (Contains rest) (λ name. IsEnough (IsLeft paid (first ∷ turns) (first ∷ rest) name) → ⊥)
            (λ name in_rest passes.
            All-contains (λ name. IsEnough (IsLeft (paid ++ first ∷ []) turns rest name) → ⊥) rest name greedy.needed in_rest
            (grows (IsLeft paid (first ∷ turns) (first ∷ rest) name) (IsLeft (paid ++ first ∷ []) turns rest name)
            (λ other. left_behind other name (λ other_kept. apart other (behind other other_kept)) (apart name (behind name in_rest))) passes))
            rest (All-contains_itself rest));
        dropped = λ name turn unkept.
            elim (Contains_cases first name turns turn) [
              | inl same ↦ absurd (unkept (subst (Contains (first ∷ rest)) same (Contains_first first rest)))
              | inr later ↦
                  grows (IsLeft (paid ++ first ∷ []) turns rest name) (IsLeft paid (first ∷ turns) (first ∷ rest) name)
                  (λ other. left_later name later other) (greedy.dropped name later (λ in_rest. unkept (Contains_later first name rest in_rest)))
            ];
      }
    where
      left_of_first : ((name : List ℕ) → Contains turns name → first ≢ name) → (other : List ℕ) → IsLeft paid (first ∷ turns) (first ∷ rest) first other → Contains (paid ++ turns) other
      left_of_first apart other (inl is_paid) = Contains-append_left paid turns other is_paid
      left_of_first apart other (inr (inl (is_kept, stands))) = absurd (apart first (second_behind first turns other first stands) refl)
      left_of_first apart other (inr (inr stands)) = Contains-append_right paid turns other (second_behind first turns first other stands)

      left_behind : (other name : List ℕ) → (Contains rest other → first ≢ other) → first ≢ name → IsLeft paid (first ∷ turns) (first ∷ rest) name other → IsLeft (paid ++ first ∷ []) turns rest name other
      left_behind other name differ_other differ (inl is_paid) = inl (Contains-append_left paid (first ∷ []) other is_paid)
      left_behind other name differ_other differ (inr (inr stands)) = inr (inr (stands_behind first turns name other differ stands))
      left_behind other name differ_other differ (inr (inl (is_kept, stands))) =
          elim (Contains_cases first other rest is_kept) [
            | inl same ↦ inl (Contains-append_right paid (first ∷ []) other (subst (Contains (first ∷ [])) same (Contains_first first [])))
            | inr in_rest ↦ inr (inl (in_rest, stands_behind first turns other name (differ_other in_rest) stands))
          ]

      left_later : (name : List ℕ) → Contains turns name → (other : List ℕ) → IsLeft (paid ++ first ∷ []) turns rest name other → IsLeft paid (first ∷ turns) (first ∷ rest) name other
      left_later name later other (inl among) =
          elim (Contains-append_cases paid (first ∷ []) other among) [
            | inl is_paid ↦ inl is_paid
            | inr is_first ↦
                let same : first ≡ other = only_one first other is_first in
                inr (inl (subst (Contains (first ∷ rest)) same (Contains_first first rest), subst (λ a. Precedes (first ∷ turns) a name) same (stands_first first turns name later)))
          ]
      left_later name later other (inr (inl (is_kept, stands))) = inr (inl (Contains_later first other rest is_kept, stands_later first turns other name stands))
      left_later name later other (inr (inr stands)) = inr (inr (stands_later first turns name other stands))

  pub greedy_for : (paid turns kept : List (List ℕ)) → AllPairs (λ a b. a ≢ b) turns → IsKeptByTurns IsEnough paid turns kept → IsGreedyFor IsEnough paid turns kept
  unfolding IsKeptByTurns
  greedy_for paid [] kept distinct none =
      subst (IsGreedyFor IsEnough paid []) (sym none) (record {
        members = All-nil (Contains []);
        ordered = λ i j d less within. absurd (omega arith);
        needed = All-nil (λ name. IsEnough (IsLeft paid [] [] name) → ⊥);
        dropped = λ name turn unkept. absurd (Contains_none name turn);
      })
  greedy_for paid (first ∷ turns) kept distinct (inl (enough, rest)) =
      leaves_first paid first turns kept distinct enough (greedy_for paid turns kept (AllPairs-tail (λ a b. a ≢ b) first turns distinct) rest)
  greedy_for paid (first ∷ turns) kept distinct (inr (others, is, short, rest)) =
      subst (IsGreedyFor IsEnough paid (first ∷ turns)) (sym is)
      (keeps_first paid first turns others distinct short (greedy_for (paid ++ first ∷ []) turns others (AllPairs-tail (λ a b. a ≢ b) first turns distinct) rest))

pub kept_is_greedy : KeptByTurnsIsGreedy
kept_is_greedy f goal p earlier target paid turns kept distinct by_turns =
    let greedy = greedy_for (Suffices f goal p earlier target) (more_suffice f goal p earlier target) paid turns kept distinct by_turns in
    record { members = greedy.members; ordered = greedy.ordered; needed = greedy.needed; dropped = greedy.dropped }
