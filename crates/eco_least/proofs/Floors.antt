-- What each set of columns that hits all rows weighs at least, each base costs at least.
use Rattle.std.proofs.Common.{◌≡◌, ◌⊎◌, inl, inr, ℕ, ◌<◌, ◌≤◌, List, [], ◌∷◌, ◌++◌, Some, length, get_or, refl, sym, subst, arith}
use Rattle.std.specs.List.{slice_get, All, Contains}
use Rattle.std.proofs.lemmas.Option.{get_or_from_slice_get, slice_get_within}
use Rattle.std.proofs.lemmas.List.Elements.{All-nil, All-cons, All-head, All-tail, Contains-append_cases}
use Rattle.eco_lists.proofs.Members.{Contains_first, Contains_later, Contains_cases, Contains_none}
use Rattle.eco_lists.proofs.Places.{place_of, All_from_places, All_at}
use Rattle.eco_laws.proofs.Members.{cases_member}
use Rattle.eco_meaning.specs.Circuit.{Circuit}
use Rattle.eco_meaning.specs.Meaning.{Goal}
use Rattle.eco_meaning.specs.Cost.{Weights, weight_of as weight_in, IsCandidate, AreTurns}
use Rattle.eco_meaning.specs.Choice.{Suffices}
use Rattle.eco_meaning.specs.Bound.{CostAtLeast, Weigh}
use Rattle.eco_floor.specs.Sets.{Hits, IsFloor, weight_of}
use Rattle.eco_floor.proofs.Sets.{hits_or}
use Rattle.eco_least.specs.Telling.{IsRowAt}

module _ (f : Circuit) (goal : Goal) (w : Weights) (input_weight : ℕ) (p : Circuit) (earlier : List (List ℕ)) (target : List ℕ) (paid turns : List (List ℕ)) (are : AreTurns f w input_weight earlier paid turns) (weights : List ℕ) (weighed : (k weight : ℕ) (name : List ℕ) → slice_get turns k ≡ Some name → weight_in f w input_weight name ≡ Some weight → slice_get weights k ≡ Some weight) where
  -- the columns of those of the signals that aren't paid: they weigh no more than the signals
  record HasColumns (signals : List (List ℕ)) (sum : ℕ) : Type 0 where
    set : List ℕ
    within : All (λ column. column < length weights) set
    light : weight_of weights set ≤ sum
    all : (name : List ℕ) → Contains signals name → Contains paid name ⊎ ((k : ℕ) × (slice_get turns k ≡ Some name) × Contains set k)

  columns_of : (signals : List (List ℕ)) (sum : ℕ) → All (IsCandidate f w input_weight earlier) signals → Weigh f w input_weight signals sum → HasColumns signals sum
  columns_of [] sum candidates none = record { set = []; within = All-nil (λ column. column < length weights); light = omega arith; all = λ name c. absurd (Contains_none name c) }
  columns_of (first ∷ signals) sum candidates (weight, rest, weighs, weigh, same) =
      let more = columns_of signals rest (All-tail (IsCandidate f w input_weight earlier) first signals candidates) weigh in
      let above = more.light in
      elim (cases_member paid first) [
        | inl is_paid ↦ record {
          set = more.set;
          within = more.within;
          light = omega (arith, above, same);
          all = λ name c. elim (Contains_cases first name signals c) [
            | inl here ↦ inl (subst (Contains paid) here is_paid)
            | inr later ↦ more.all name later
          ];
        }
        | inr unpaid ↦
            let (k, at) = place_of turns first (are.complete first (record { candidate = All-head (IsCandidate f w input_weight earlier) first signals candidates; unpaid = unpaid })) in
            let here : get_or weights k 0 ≡ weight = get_or_from_slice_get weights k weight 0 (weighed k weight first at weighs) in
            let place : k < length weights = slice_get_within weights k weight (weighed k weight first at weighs) in
            record {
              set = k ∷ more.set;
              within = All-cons (λ column. column < length weights) k more.set place more.within;
              light = omega (arith, above, same, here);
              all = λ name c. elim (Contains_cases first name signals c) [
                | inl same_name ↦ inr (k, subst (λ n. slice_get turns k ≡ Some n) same_name at, Contains_first k more.set)
                | inr later ↦ elim (more.all name later) [
                  | inl is_paid ↦ inl is_paid
                  | inr turn ↦ inr (turn.0, turn.1, Contains_later k turn.0 more.set turn.2)
                ]
              ];
            }
      ]

  -- where the signals suffice, their columns hit each row
  hit : (signals : List (List ℕ)) (sum : ℕ) (columns : HasColumns signals sum) → Suffices f goal p earlier target (Contains (paid ++ signals)) →
      (row : List ℕ) → IsRowAt f goal p earlier target paid turns row → Hits columns.set row
  hit signals sum columns enough row is =
      elim (hits_or columns.set row) [
        | inl hits ↦ hits
        | inr never ↦ absurd (enough is.one is.zero record {
          one = is.forced_one;
          zero = is.forced_zero;
          alike = λ v u v_is u_is name c. elim (Contains-append_cases paid signals name c) [
            | inl is_paid ↦ is.paid_alike v u v_is u_is name is_paid
            | inr among ↦ elim (columns.all name among) [
              | inl is_paid ↦ is.paid_alike v u v_is u_is name is_paid
              | inr turn ↦ is.others_alike turn.0 name turn.1 (never turn.0 turn.2) v u v_is u_is name refl
            ]
          ];
        })
      ]

  pub cost_floor : (rows : List (List ℕ)) (best : ℕ) → All (IsRowAt f goal p earlier target paid turns) rows → IsFloor rows weights best → CostAtLeast f goal w input_weight p earlier target paid best
  cost_floor rows best are_rows floor signals sum candidates enough weigh =
      let columns = columns_of signals sum candidates weigh in
      let below = floor columns.set columns.within (All_from_places (Hits columns.set) rows (λ k row at. hit signals sum columns enough row (All_at (IsRowAt f goal p earlier target paid turns) rows k row are_rows at))) in
      let light = columns.light in
      omega (arith, below, light)
