-- The least that is left to candidates which tell two inputs apart, with one candidate more.
use Rattle.std.proofs.Common.{◌≡◌, ℕ, ◌≤◌, inl, inr, true, false, List, [], ◌∷◌, ◌++◌, Option, Some, None, refl, sym, ◌∙◌, arith}
use Rattle.std.specs.List.{All, Contains}
use Rattle.std.specs.Prelude.{min}
use Rattle.std.proofs.Math.Nat.{min-le_left, min-le_right, min-eq_left, min-eq_right}
use Rattle.std.proofs.lemmas.Bool.{cases_lt, false≢true}
use Rattle.std.proofs.lemmas.List.Elements.{All-push, Contains-append_left, Contains-append_right, All-contains}
use Rattle.eco_lists.proofs.Members.{Contains_first}
use Rattle.eco_lists.proofs.Places.{All_from_places, Contains_at}
use Rattle.eco_bound.specs.declared.payers.Payer.{Payer}
use Rattle.eco_bound.specs.declared.payers.Sight.{Sight}
use Rattle.eco_bound.specs.Payers.{tells_apart, IsLeastLeft}

module _ (sight : Sight) (others : List Payer) (payer : Payer) where
  abbrev Tells : Payer → Type 0
  Tells payer = tells_apart sight payer.net ≡ true

  abbrev Silent : Payer → Type 0
  Silent payer = tells_apart sight payer.net ≡ false

  last : Contains (others ++ payer ∷ []) payer
  last = Contains-append_right others (payer ∷ []) payer (Contains_first payer [])

  -- a lesser bound is one of those before
  lower_bound : (bound least : ℕ) → bound ≤ least → All (λ other. Tells other → least ≤ other.left) others → All (λ other. Tells other → bound ≤ other.left) others
  lower_bound bound least below all =
      All_from_places (λ other. Tells other → bound ≤ other.left) others
      (λ k other at tells. let above = All-contains (λ other. Tells other → least ≤ other.left) others other all (Contains_at others k other at) tells in omega (arith, below, above))

  -- one that doesn't tell the inputs apart changes nothing
  pub least_skips : (least : Option ℕ) → Silent payer → IsLeastLeft sight others least → IsLeastLeft sight (others ++ payer ∷ []) least
  least_skips None silent is = All-push Silent others payer is silent
  least_skips (Some least) silent ((one, here, tells, same), all) = (
    (one, Contains-append_left others (payer ∷ []) one here, tells, same),
    All-push (λ other. Tells other → least ≤ other.left) others payer all (λ tells. absurd (false≢true (sym silent ∙ tells))),
  )

  -- the first that does has the least
  pub least_begins : Tells payer → IsLeastLeft sight others None → IsLeastLeft sight (others ++ payer ∷ []) (Some payer.left)
  least_begins tells none = (
    (payer, last, tells, refl),
    All-push (λ other. Tells other → payer.left ≤ other.left) others payer
        (All_from_places (λ other. Tells other → payer.left ≤ other.left) others
        (λ k other at tells. absurd (false≢true (sym (All-contains Silent others other none (Contains_at others k other at)) ∙ tells))))
        (λ tells. omega arith),
  )

  -- else the lesser of both is the least
  pub least_goes_on : (least : ℕ) → Tells payer → IsLeastLeft sight others (Some least) → IsLeastLeft sight (others ++ payer ∷ []) (Some (min least payer.left))
  least_goes_on least tells ((one, here, tells_one, same), all) = (
    elim (cases_lt least payer.left) [
      | inl less ↦ (one, Contains-append_left others (payer ∷ []) one here, tells_one, same ∙ sym (min-eq_left (omega (arith, less))))
      | inr more ↦ (payer, last, tells, sym (min-eq_right more))
    ],
    All-push (λ other. Tells other → min least payer.left ≤ other.left) others payer
        (lower_bound (min least payer.left) least (min-le_left least payer.left) all)
        (λ tells. min-le_right least payer.left),
  )
