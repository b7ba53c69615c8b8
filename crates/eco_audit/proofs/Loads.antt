-- What a signal carries of parts: one number, no less for more parts, and told by one map at each input.
use Rattle.std.proofs.Common.{◌≡◌, ◌≢◌, ◌⊎◌, inl, inr, ℕ, ◌+◌, ◌≤◌, false, List, [], ◌∷◌, ◌++◌, refl, sym, ◌∙◌, arith}
use Rattle.std.specs.List.{All, Contains}
use Rattle.std.proofs.lemmas.List.Elements.{All-head, All-tail}
use Rattle.eco_meaning.specs.Circuit.{Circuit, Values, names}
use Rattle.eco_meaning.specs.Patch.{IsBehindOnly}
use Rattle.eco_meaning.specs.Choice.{IsReached}
use Rattle.eco_meaning.specs.Bound.{Part, TellsApart, IsAlikeAt, IsLoad}
use Rattle.eco_laws.specs.Reached.{IsPatchOf}
use Rattle.eco_laws.proofs.OneValue.{reached_maps_agree}
use Rattle.eco_laws.proofs.Reaching.{reach}
use Rattle.eco_audit.specs.Bounds.{HasInputs}

-- one part more makes the signal's load of this to that
abbrev pub MakesLoad : Circuit → Circuit → List ℕ → Part → ℕ → ℕ → Type 0
MakesLoad f p name part load more =
    (TellsApart f p name part × (more ≡ part.amount + load)) ⊎ (IsAlikeAt f p name part × (more ≡ load))

pub load_more : (f p : Circuit) (name : List ℕ) (parts : List Part) (part : Part) (load more : ℕ) → IsLoad f p name parts load → MakesLoad f p name part load more → IsLoad f p name (parts ++ part ∷ []) more
load_more f p name [] part load more sum makes = (load, sum, makes)
load_more f p name (first ∷ parts) part load more sum makes =
    elim makes [
      | inl apart ↦
          let behind = load_more f p name parts part sum.0 (part.amount + sum.0) sum.1 (inl (apart.0, refl)) in
          elim sum.2 [
            | inl here ↦ (part.amount + sum.0, behind, inl (here.0, omega (arith, apart.1, here.1)))
            | inr here ↦ (part.amount + sum.0, behind, inr (here.0, omega (arith, apart.1, here.1)))
          ]
      | inr alike ↦
          let behind = load_more f p name parts part sum.0 sum.0 sum.1 (inr (alike.0, refl)) in
          elim sum.2 [
            | inl here ↦ (sum.0, behind, inl (here.0, omega (arith, alike.1, here.1)))
            | inr here ↦ (sum.0, behind, inr (here.0, omega (arith, alike.1, here.1)))
          ]
    ]

-- the load of the first parts is no more than that of all
pub front_load : (f p : Circuit) (name : List ℕ) (front back : List Part) (load : ℕ) → IsLoad f p name (front ++ back) load → (less : ℕ) × IsLoad f p name front less × (less ≤ load)
front_load f p name [] back load sum = (0, refl, omega arith)
front_load f p name (part ∷ front) back load sum =
    let (less, first, within) = front_load f p name front back sum.0 sum.1 in
    elim sum.2 [
      | inl here ↦ (part.amount + less, (less, first, inl (here.0, refl)), omega (arith, here.1, within))
      | inr here ↦ (less, (less, first, inr (here.0, refl)), omega (arith, here.1, within))
    ]

module _ (f p : Circuit) (is : IsPatchOf f p []) (name : List ℕ) where
  -- a signal isn't both
  never_both : (part : Part) → HasInputs f part → TellsApart f p name part → IsAlikeAt f p name part → ⊥
  never_both part fits apart alike =
      let one = reach f p [] is part.force1 (λ other. false) fits.one in
      let zero = reach f p [] is part.force0 (λ other. false) fits.zero in
      apart one.0 zero.0 one.1 zero.1 (alike one.0 zero.0 one.1 zero.1)

  -- its load is one number
  pub load_once : (parts : List Part) (load other : ℕ) → All (HasInputs f) parts → IsLoad f p name parts load → IsLoad f p name parts other → load ≡ other
  load_once [] load other fits sum same = sum ∙ sym same
  load_once (part ∷ parts) load other fits sum same =
      let behind = load_once parts sum.0 same.0 (All-tail (HasInputs f) part parts fits) sum.1 same.1 in
      let here = All-head (HasInputs f) part parts fits in
      elim sum.2 [
        | inl a ↦ elim same.2 [
          | inl b ↦ omega (arith, behind, a.1, b.1)
          | inr b ↦ absurd (never_both part here a.0 b.0)
        ]
        | inr a ↦ elim same.2 [
          | inl b ↦ absurd (never_both part here b.0 a.0)
          | inr b ↦ omega (arith, behind, a.1, b.1)
        ]
      ]

  module _ (net : Contains (names f) name) (only : IsBehindOnly f [] name) (part : Part) (v u : Values) (v_is : IsReached f p [] part.force1 v) (u_is : IsReached f p [] part.force0 u) where
    -- one map at each input tells which it is
    pub apart_by_maps : v name ≢ u name → TellsApart f p name part
    apart_by_maps differ a b a_is b_is same =
        differ ((reached_maps_agree f p [] is part.force1 v a v_is a_is).1 name net only ∙ same
        ∙ sym ((reached_maps_agree f p [] is part.force0 u b u_is b_is).1 name net only))

    pub alike_by_maps : v name ≡ u name → IsAlikeAt f p name part
    alike_by_maps same a b a_is b_is =
        sym ((reached_maps_agree f p [] is part.force1 v a v_is a_is).1 name net only) ∙ same
        ∙ (reached_maps_agree f p [] is part.force0 u b u_is b_is).1 name net only
