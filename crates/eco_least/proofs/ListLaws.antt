-- Lists of marked turns.
use Rattle.std.proofs.Common.{◌≡◌, ◌≢◌, ℕ, inl, inr, Bool, true, false, List, [], ◌∷◌, subst, arith}
use Rattle.std.specs.List.{All, AllPairs, Contains}
use Rattle.eco_lists.proofs.Members.{AllPairs-head, AllPairs-tail, Contains_cases, Contains_first, Contains_later, Contains_none, only_one, map-Contains, Contains-map}
use Rattle.eco_lists.proofs.Places.{All_from_places, Contains_at}
use Rattle.eco_gates.specs.declared.gate.NetId.{NetId}
use Rattle.eco_netlist.specs.Netlists.{name_at, names_at}
use Rattle.eco_pose.specs.Questions.{AreDistinct}
use Rattle.eco_base.proofs.ListLaws.{distinct_join}
use Rattle.eco_least.specs.Weighed.{marked_of}

-- those that are marked are among the nets
marked_in : (nets : List NetId) (marks : List Bool) (net : NetId) → Contains (marked_of nets marks) net → Contains nets net
marked_in [] marks net c = c
marked_in (first ∷ nets) [] net c = absurd (Contains_none net c)
marked_in (first ∷ nets) (false ∷ marks) net c = Contains_later first net nets (marked_in nets marks net c)
marked_in (first ∷ nets) (true ∷ marks) net c =
    elim (Contains_cases first net (marked_of nets marks) c) [
      | inl same ↦ subst (Contains (first ∷ nets)) same (Contains_first first nets)
      | inr later ↦ Contains_later first net nets (marked_in nets marks net later)
    ]

pub marked_turns : (nets : List NetId) (marks : List Bool) → All (Contains nets) (marked_of nets marks)
marked_turns nets marks = All_from_places (Contains nets) (marked_of nets marks) (λ k net at. marked_in nets marks net (Contains_at (marked_of nets marks) k net at))

-- one element differs from no other
single : {X : Type 0} (x : X) → AllPairs (λ a b. a ≢ b) (x ∷ [])
single x i j d less within = absurd (omega (arith, less, within))

-- different nets that are marked are different
pub marked_distinct : (list : List (List ℕ)) (nets : List NetId) (marks : List Bool) → AreDistinct (names_at list nets) → AreDistinct (names_at list (marked_of nets marks))
marked_distinct list [] marks apart = apart
marked_distinct list (first ∷ nets) [] apart = λ i j d less within. absurd (omega (arith, less, within))
marked_distinct list (first ∷ nets) (false ∷ marks) apart = marked_distinct list nets marks (AllPairs-tail (λ a b. a ≢ b) (name_at list first.0) (names_at list nets) apart)
marked_distinct list (first ∷ nets) (true ∷ marks) apart =
    let name = name_at list first.0 in
    distinct_join (name ∷ []) (names_at list (marked_of nets marks)) (single name)
    (marked_distinct list nets marks (AllPairs-tail (λ a b. a ≢ b) name (names_at list nets) apart))
    (λ other here later.
    let same : name ≡ other = only_one name other here in
    let (net, c, is) = map-Contains (λ (net : NetId). name_at list net.0) (marked_of nets marks) other later in
    AllPairs-head (λ a b. a ≢ b) name (names_at list nets) apart other
    (subst (Contains (names_at list nets)) is (named nets net (marked_in nets marks net c))) same)
  where
    named : (nets : List NetId) (net : NetId) → Contains nets net → Contains (names_at list nets) (name_at list net.0)
    named nets net c = Contains-map (λ (net : NetId). name_at list net.0) nets net c
