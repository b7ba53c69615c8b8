-- Decisions that come and go: proofs.
use Rattle.std.proofs.Common.{◌≡◌, inl, inr, ℕ, ◌≤◌, List, [], ◌∷◌, ◌++◌, length, take, sym, ◌∙◌, ap, subst, arith}
use Rattle.std.specs.List.{Contains}
use Rattle.std.proofs.lemmas.List.{take-append-le}
use Rattle.std.proofs.Math.Seq.{take-append_seam}
use Rattle.std.proofs.lemmas.List.Elements.{Contains-append_cases}
use Rattle.std.proofs.lemmas.Option.{slice_get_within, none-some}
use Rattle.eco_lists.proofs.Places.{slice_get-append_left, slice_get-push_last, push_cases}
use Rattle.eco_lists.proofs.Members.{Contains_none, only_one}
use Rattle.eco_floor.specs.declared.decision.Decision.{Decision}
use Rattle.eco_floor.specs.declared.decision.Decision.TheVariants.{Taken, Left}
use Rattle.eco_floor.specs.Sets.{IsFloor, weight_of}
use Rattle.eco_floor.specs.Search.{Agrees, AreAbove, AreSettled}
use Rattle.eco_floor.proofs.Sets.{has_or_not}

-- no decisions
pub settled_none : (rows : List (List ℕ)) (weights : List ℕ) (best : ℕ) → AreSettled rows weights best []
settled_none rows weights best k column at = absurd (none-some (Left column) at)

pub floor_from_none : (rows : List (List ℕ)) (weights : List ℕ) (best : ℕ) → AreAbove rows weights best [] → IsFloor rows weights best
floor_from_none rows weights best are set within hits = are set (record {
  within = within;
  hits = hits;
  taken = λ column in'. absurd (Contains_none (Taken column) in');
  left = λ column in'. absurd (Contains_none (Left column) in');
})

-- one more decision, where those that leave their column out are dealt with
settled_push : (rows : List (List ℕ)) (weights : List ℕ) (best : ℕ) (decisions : List Decision) (last : Decision) → ((column : ℕ) → last ≡ Left column → (set : List ℕ) → Agrees rows weights decisions set → Contains set column → best ≤ weight_of weights set) → AreSettled rows weights best decisions → AreSettled rows weights best (decisions ++ last ∷ [])
settled_push rows weights best decisions last here are k column at set agrees in' =
    elim (push_cases decisions last k (Left column) at) [
      | inl old ↦
          let within = slice_get_within decisions k (Left column) old in
          are k column old set (subst (λ front. Agrees rows weights front set) (take-append-le k decisions (last ∷ []) (omega (arith, within))) agrees) in'
      | inr (place, same) ↦
          let front : take k (decisions ++ last ∷ []) ≡ decisions = ap (λ n. take n (decisions ++ last ∷ [])) place ∙ take-append_seam decisions (last ∷ []) in
          here column (sym same) set (subst (λ ds. Agrees rows weights ds set) front agrees) in'
    ]

pub settled_taken : (rows : List (List ℕ)) (weights : List ℕ) (best : ℕ) (decisions : List Decision) (column : ℕ) → AreSettled rows weights best decisions → AreSettled rows weights best (decisions ++ Taken column ∷ [])
settled_taken rows weights best decisions column are = settled_push rows weights best decisions (Taken column) (λ c same. absurd (cc)) are

-- one decision less
pub settled_front : (rows : List (List ℕ)) (weights : List ℕ) (best : ℕ) (decisions : List Decision) (last : Decision) → AreSettled rows weights best (decisions ++ last ∷ []) → AreSettled rows weights best decisions
settled_front rows weights best decisions last are k column at set agrees in' =
    let within = slice_get_within decisions k (Left column) at in
    are k column (slice_get-append_left decisions (last ∷ []) k (Left column) at) set
    (subst (λ front. Agrees rows weights front set) (sym (take-append-le k decisions (last ∷ []) (omega (arith, within)))) agrees) in'

-- a set that agrees with one more decision
agrees_taken : (rows : List (List ℕ)) (weights : List ℕ) (decisions : List Decision) (column : ℕ) (set : List ℕ) → Contains set column → Agrees rows weights decisions set → Agrees rows weights (decisions ++ Taken column ∷ []) set
agrees_taken rows weights decisions column set in' agrees = record {
  within = agrees.within;
  hits = agrees.hits;
  taken = λ c at. elim (Contains-append_cases decisions (Taken column ∷ []) (Taken c) at) [
    | inl before ↦ agrees.taken c before
    | inr last ↦ let e = only_one (Taken column) (Taken c) last in let same : column ≡ c = cc in subst (λ n. Contains set n) same in'
  ];
  left = λ c at. elim (Contains-append_cases decisions (Taken column ∷ []) (Left c) at) [
    | inl before ↦ agrees.left c before
    | inr last ↦ let e = only_one (Taken column) (Left c) last in absurd (cc)
  ];
}

agrees_left : (rows : List (List ℕ)) (weights : List ℕ) (decisions : List Decision) (column : ℕ) (set : List ℕ) → (Contains set column → ⊥) → Agrees rows weights decisions set → Agrees rows weights (decisions ++ Left column ∷ []) set
agrees_left rows weights decisions column set out agrees = record {
  within = agrees.within;
  hits = agrees.hits;
  taken = λ c at. elim (Contains-append_cases decisions (Left column ∷ []) (Taken c) at) [
    | inl before ↦ agrees.taken c before
    | inr last ↦ let e = only_one (Left column) (Taken c) last in absurd (cc)
  ];
  left = λ c at. elim (Contains-append_cases decisions (Left column ∷ []) (Left c) at) [
    | inl before ↦ agrees.left c before
    | inr last ↦ let e = only_one (Left column) (Left c) last in let same : column ≡ c = cc in λ in'. out (subst (λ n. Contains set n) (sym same) in')
  ];
}

-- both with the column and without it all sets are dealt with
pub above_front : (rows : List (List ℕ)) (weights : List ℕ) (best : ℕ) (decisions : List Decision) (column : ℕ) → AreAbove rows weights best (decisions ++ Left column ∷ []) → AreSettled rows weights best (decisions ++ Left column ∷ []) → AreAbove rows weights best decisions
above_front rows weights best decisions column above are set agrees =
    elim (has_or_not set column) [
      | inl has ↦
          are (length decisions) column (slice_get-push_last decisions (Left column)) set
          (subst (λ ds. Agrees rows weights ds set) (sym (take-append_seam decisions (Left column ∷ []))) agrees) has
      | inr none ↦ above set (agrees_left rows weights decisions column set none agrees)
    ]

-- the sets with the column are dealt with, so it is left out
pub settled_turned : (rows : List (List ℕ)) (weights : List ℕ) (best : ℕ) (decisions : List Decision) (column : ℕ) → AreAbove rows weights best (decisions ++ Taken column ∷ []) → AreSettled rows weights best (decisions ++ Taken column ∷ []) → AreSettled rows weights best (decisions ++ Left column ∷ [])
settled_turned rows weights best decisions column above are =
    settled_push rows weights best decisions (Left column) here (settled_front rows weights best decisions (Taken column) are)
  where
    here : (c : ℕ) → Left column ≡ Left c → (set : List ℕ) → Agrees rows weights decisions set → Contains set c → best ≤ weight_of weights set
    here c e set agrees in' =
        let same : column ≡ c = cc in
        above set (agrees_taken rows weights decisions column set (subst (λ n. Contains set n) (sym same) in') agrees)
