-- One part more.
use Rattle.std.proofs.Common.{◌≡◌, ◌⊎◌, inl, inr, ℕ, ◌+◌, List, [], ◌∷◌, ◌++◌, length, refl, ◌∙◌, ap, subst, arith}
use Rattle.std.proofs.lemmas.List.{length-append}
use Rattle.eco_meaning.specs.Circuit.{Circuit}
use Rattle.eco_meaning.specs.Cost.{Weights}
use Rattle.eco_meaning.specs.Bound.{Part, TellsApart, IsAlikeAt, IsLoad, IsUsedUp, amount_of}
use Rattle.eco_bound.specs.Accounts.{UseUp}

-- the amounts
pub amount_push : (parts : List Part) (part : Part) → amount_of (parts ++ part ∷ []) ≡ amount_of parts + part.amount
amount_push [] part = omega arith
amount_push (one ∷ parts) part =
    let rest = amount_push parts part in
    omega (arith, rest)

-- a cut of the list with one element more is behind all others, or a cut of the list
push_cut : {X : Type 0} (list : List X) (x : X) (before : List X) (y : X) (behind : List X) → list ++ x ∷ [] ≡ before ++ y ∷ behind →
    ((list ≡ before) × (x ≡ y)) ⊎ ((rest : List X) × (list ≡ before ++ y ∷ rest))
push_cut [] x [] y behind same = inl (refl, cc same)
push_cut [] x (one ∷ before) y behind same =
    let lengths : length (x ∷ []) ≡ length (one ∷ (before ++ y ∷ behind)) = ap length same in
    absurd (omega (arith, lengths, length-append before (y ∷ behind)))
push_cut (first ∷ list) x [] y behind same = let here : first ≡ y = cc same in inr (list, ap (λ z. z ∷ list) here)
push_cut (first ∷ list) x (one ∷ before) y behind same =
    let here : first ≡ one = cc same in
    let tail : list ++ x ∷ [] ≡ before ++ y ∷ behind = cc same in
    elim (push_cut list x before y behind tail) [
      | inl end ↦ inl (ap (λ z. z ∷ list) here ∙ ap (λ l. one ∷ l) end.0, end.1)
      | inr within ↦ inr (within.0, ap (λ z. z ∷ list) here ∙ ap (λ l. one ∷ l) within.1)
    ]

module _ (f p : Circuit) (name : List ℕ) where
  -- the load of a signal that tells its inputs apart
  pub load_told : (parts : List Part) (part : Part) (load : ℕ) → TellsApart f p name part → IsLoad f p name parts load → IsLoad f p name (parts ++ part ∷ []) (load + part.amount)
  load_told [] part load told none = (0, refl, inl (told, omega (arith, none)))
  load_told (one ∷ parts) part load told (rest, is, cases) = (
    rest + part.amount,
    load_told parts part rest told is,
    elim cases [
      | inl apart ↦ inl (apart.0, omega (arith, apart.1))
      | inr alike ↦ inr (alike.0, omega (arith, alike.1))
    ],
  )

  -- and of one that has the same value at both
  pub load_alike : (parts : List Part) (part : Part) (load : ℕ) → IsAlikeAt f p name part → IsLoad f p name parts load → IsLoad f p name (parts ++ part ∷ []) load
  load_alike [] part load alike none = (0, refl, inr (alike, none))
  load_alike (one ∷ parts) part load alike (rest, is, cases) = (rest, load_alike parts part rest alike is, cases)

-- the parts use candidates up if the last one does
pub use_up_push : (f : Circuit) (w : Weights) (input_weight : ℕ) (p : Circuit) (parts : List Part) (part : Part) (name : List ℕ) →
    UseUp f w input_weight p parts → TellsApart f p name part → IsUsedUp f w input_weight p (parts ++ part ∷ []) name → UseUp f w input_weight p (parts ++ part ∷ [])
use_up_push f w input_weight p parts part name is told used before one behind cut =
    elim (push_cut parts part before one behind cut) [
      | inl end ↦ (
        name,
        subst (TellsApart f p name) end.1 told,
        subst (λ list. IsUsedUp f w input_weight p (list ++ one ∷ []) name) end.0 (subst (λ z. IsUsedUp f w input_weight p (parts ++ z ∷ []) name) end.1 used),
      )
      | inr within ↦ is before one within.0 within.1
    ]
