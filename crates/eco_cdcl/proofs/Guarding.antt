-- Clauses guarded by the two literals that they watch.
use Rattle.std.proofs.Common.{◌≡◌, ◌≢◌, ℕ, ◌<◌, ◌≤◌, inl, inr, List, [], ◌∷◌, ◌++◌, length, take, set, slice_get, Some, refl, sym, ◌∙◌, subst, arith, All, Any, Contains}
use Rattle.std.proofs.lemmas.List.{take-append-le, take_all}
use Rattle.std.proofs.lemmas.List.Elements.{Contains-append_left}
use Rattle.std.proofs.lemmas.Option.{same_Some, slice_get_within}
use Rattle.eco_lists.proofs.Places.{All_from_places, item_at, set_cases, push_cases, slice_get-append_left}
use Rattle.eco_trace.specs.declared.clause.Lit.{Lit}
use Rattle.eco_trace.specs.Clauses.{complement}
use Rattle.eco_trace.specs.Freshness.{IsSatisfiedOrUnresolved}
use Rattle.eco_cdcl.specs.Entries.{Watch}
use Rattle.eco_cdcl.specs.Pairs.{Two, IsOneOf}
use Rattle.eco_cdcl.specs.Watching.{HasTrue, Guards, Held, AreWatched}
use Rattle.eco_cdcl.proofs.Truths.{truth_cases, Contains_front}

-- a clause that holds holds where more is true, and among more clauses
pub true_longer : (cs : List (List Lit)) (t more : List Lit) (i : ℕ) → HasTrue cs t i → HasTrue cs (t ++ more) i
true_longer cs t more i h = record {
  clause = h.clause;
  clause_at = h.clause_at;
  lit = h.lit;
  member = h.member;
  holds = Contains-append_left t more h.lit h.holds;
}

pub true_grown : (cs more : List (List Lit)) (t : List Lit) (i : ℕ) → HasTrue cs t i → HasTrue (cs ++ more) t i
true_grown cs more t i h = record {
  clause = h.clause;
  clause_at = slice_get-append_left cs more i h.clause h.clause_at;
  lit = h.lit;
  member = h.member;
  holds = h.holds;
}

-- so does a guard
pub held_longer : (cs : List (List Lit)) (t more : List Lit) (q : ℕ) (pairs : List Two) → q ≤ length t → Held cs t q pairs → Held cs (t ++ more) q pairs
held_longer cs t more q pairs le h i two at =
    let g = h i two at in
    let front : take q (t ++ more) ≡ take q t = take-append-le q t more le in
    record {
      fallen = λ x o c. true_longer cs t more i (g.fallen x o (subst (λ ls. Contains ls (complement x)) front c));
      apart = elim g.apart [ inl d ↦ inl d | inr m ↦ inr (Contains-append_left t more two.one m) ];
    }

pub held_grown : (cs more : List (List Lit)) (t : List Lit) (q : ℕ) (pairs : List Two) → Held cs t q pairs → Held (cs ++ more) t q pairs
held_grown cs more t q pairs h i two at =
    let g = h i two at in
    record { fallen = λ x o c. true_grown cs more t i (g.fallen x o c); apart = g.apart }

-- one more pair
pub held_push : (cs : List (List Lit)) (t : List Lit) (q : ℕ) (pairs : List Two) (two : Two) → Held cs t q pairs → Guards cs t q (length pairs) two → Held cs t q (pairs ++ two ∷ [])
held_push cs t q pairs two h g i p at =
    elim (push_cases pairs two i p at) [
      | inl old ↦ h i p old
      | inr new ↦ subst (λ z. Guards cs t q i z) (sym new.1) (subst (λ n. Guards cs t q n two) (sym new.0) g)
    ]

-- a pair whose one literal is kept and whose other isn't false is a guard
pub guards_moved : (cs : List (List Lit)) (t : List Lit) (q i : ℕ) (two : Two) (other next : Lit) → Guards cs t q i two → IsOneOf two other → other.var ≢ next.var → (Contains t (complement next) → ⊥) → Guards cs t q i (record { one = other; other = next; lits = two.lits })
guards_moved cs t q i two other next g o apart standing = record {
  fallen = λ x at c. elim at [
    | inl e ↦ g.fallen x (elim o [ inl f ↦ inl (e ∙ f) | inr f ↦ inr (e ∙ f) ]) c
    | inr e ↦ absurd (standing (subst (λ y. Contains t (complement y)) e (Contains_front q t (complement x) c)))
  ];
  apart = inl apart;
}

pub held_moved : (cs : List (List Lit)) (t : List Lit) (q : ℕ) (pairs : List Two) (j : ℕ) (two : Two) (other next : Lit) → Held cs t q pairs → slice_get pairs j ≡ Some two → IsOneOf two other → other.var ≢ next.var → (Contains t (complement next) → ⊥) → Held cs t q (set pairs j (record { one = other; other = next; lits = two.lits }))
held_moved cs t q pairs j two other next h at o apart standing i p found =
    let new : Two = record { one = other; other = next; lits = two.lits } in
    elim (set_cases pairs j new i p found) [
      | inl here ↦
          let g = guards_moved cs t q j two other next (h j two at) o apart standing in
          subst (λ z. Guards cs t q i z) (sym here.1) (subst (λ n. Guards cs t q n new) (sym here.0) g)
      | inr old ↦ h i p old.1
    ]

-- what is known of a guard once all literals were gone through: the clause holds, or nothing is known of the two
guard_unforced : (cs : List (List Lit)) (t : List Lit) (q i : ℕ) (two : Two) (clause : List Lit) → Guards cs t q i two → length t ≤ q → slice_get cs i ≡ Some clause → Contains clause two.one → Contains clause two.other → IsSatisfiedOrUnresolved t clause
guard_unforced cs t q i two clause g le at one other =
    let all : take q t ≡ t = take_all q t le in
    let holds : HasTrue cs t i → Any (Contains t) clause =
    λ h.
    let same : h.clause ≡ clause = same_Some h.clause clause (sym h.clause_at ∙ at) in
    let m : Contains clause h.lit = subst (λ c. Contains c h.lit) same h.member in
    (m.0, h.lit, m.1, m.2, h.holds)
    in
    let known : (x : Lit) → IsOneOf two x → Contains t (complement x) → IsSatisfiedOrUnresolved t clause =
    λ x o c. inl (holds (g.fallen x o (subst (λ ls. Contains ls (complement x)) (sym all) c)))
    in
    let true' : (x : Lit) → Contains clause x → Contains t x → IsSatisfiedOrUnresolved t clause =
    λ x m c. inl (m.0, x, m.1, m.2, c)
    in
    elim (truth_cases t two.one) [
      | inl c ↦ true' two.one one c
      | inr (inl c) ↦ known two.one (inl refl) c
      | inr (inr lacks_one) ↦ elim (truth_cases t two.other) [
        | inl c ↦ true' two.other other c
        | inr (inl c) ↦ known two.other (inr refl) c
        | inr (inr lacks_other) ↦ elim g.apart [
          | inr c ↦ true' two.one one c
          | inl different ↦ inr (record {
            one = two.one;
            other = two.other;
            one_in = one;
            other_in = other;
            different = different;
            one_lacking = lacks_one;
            other_lacking = lacks_other;
          })
        ]
      ]
    ]

-- once all literals were gone through, unit propagation gets nothing from any clause
pub unforced : (cs : List (List Lit)) (t : List Lit) (q : ℕ) (pairs : List Two) (lists : List (List Watch)) → Held cs t q pairs → length t ≤ q → AreWatched cs pairs lists → length pairs ≡ length cs → All (IsSatisfiedOrUnresolved t) cs
unforced cs t q pairs lists h le w full =
    All_from_places (IsSatisfiedOrUnresolved t) cs
    (λ i clause at.
    let within : i < length cs = slice_get_within cs i clause at in
    let item = item_at pairs i (omega arith) in
    let watched = w.each i item.0 item.1 in
    guard_unforced cs t q i item.0 clause (h i item.0 item.1) le at (watched.members item.0.one clause (inl refl) at) (watched.members item.0.other clause (inr refl) at))
