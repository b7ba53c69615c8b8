-- Lists in a strict order: with the same members they are one.
use Rattle.std.proofs.Common.{◌≡◌, ℕ, inl, inr, List, [], ◌∷◌, Some, refl, sym, subst}
use Rattle.std.specs.List.{slice_get, AllPairs, Contains}
use Rattle.std.proofs.lemmas.Bool.{cases_order}
use Rattle.eco_lists.proofs.Members.{Contains_first, Contains_later, Contains_cases, Contains_none, AllPairs-tail, AllPairs-head}
use Rattle.eco_lists.proofs.Places.{pair_at}

module _ {X : Type 0} (R : X → X → Type 0) (one_way : (x y : X) → R x y → R y x → ⊥) where
  -- the heads of two lists with the same members are one
  same_head : (x : X) (xs : List X) (y : X) (ys : List X) → AllPairs R (x ∷ xs) → AllPairs R (y ∷ ys) → Contains (y ∷ ys) x → Contains (x ∷ xs) y → x ≡ y
  same_head x xs y ys ordered others has_x has_y =
      elim (Contains_cases y x ys has_x) [
        | inl same ↦ sym same
        | inr later_x ↦ elim (Contains_cases x y xs has_y) [
          | inl same ↦ same
          | inr later_y ↦ absurd (one_way x y (AllPairs-head R x xs ordered y later_y) (AllPairs-head R y ys others x later_x))
        ]
      ]

  -- what stands behind one head stands behind the other
  in_tail : (x : X) (xs : List X) (y : X) (ys : List X) → AllPairs R (x ∷ xs) → x ≡ y → (z : X) → Contains xs z → Contains (y ∷ ys) z → Contains ys z
  in_tail x xs y ys ordered same z later has =
      elim (Contains_cases y z ys has) [
        | inr is ↦ is
        | inl first ↦
            let here : R x y = subst (R x) (sym first) (AllPairs-head R x xs ordered z later) in
            absurd (one_way y y (subst (λ a. R a y) same here) (subst (λ a. R a y) same here))
      ]

  pub same_lists : (xs ys : List X) → AllPairs R xs → AllPairs R ys → ((x : X) → Contains xs x → Contains ys x) → ((y : X) → Contains ys y → Contains xs y) → xs ≡ ys
  same_lists [] [] ordered others there back = refl
  same_lists [] (y ∷ ys) ordered others there back = absurd (Contains_none y (back y (Contains_first y ys)))
  same_lists (x ∷ xs) [] ordered others there back = absurd (Contains_none x (there x (Contains_first x xs)))
  same_lists (x ∷ xs) (y ∷ ys) ordered others there back =
      let same = same_head x xs y ys ordered others (there x (Contains_first x xs)) (back y (Contains_first y ys)) in
      let rest =
      same_lists xs ys (AllPairs-tail R x xs ordered) (AllPairs-tail R y ys others)
      (λ z later. in_tail x xs y ys ordered same z later (there z (Contains_later x z xs later)))
      (λ z later. in_tail y ys x xs others (sym same) z later (back z (Contains_later y z ys later))) in
      cc (same, rest)

  -- nothing stands at two places
  pub one_place : (xs : List X) (i j : ℕ) (x : X) → AllPairs R xs → slice_get xs i ≡ Some x → slice_get xs j ≡ Some x → i ≡ j
  one_place xs i j x ordered at_i at_j =
      elim (cases_order i j) [
        | inl same ↦ same
        | inr differ ↦ elim differ [
          | inl less ↦ let twice = pair_at R xs i j x x ordered less at_i at_j in absurd (one_way x x twice twice)
          | inr more ↦ let twice = pair_at R xs j i x x ordered more at_j at_i in absurd (one_way x x twice twice)
        ]
      ]
