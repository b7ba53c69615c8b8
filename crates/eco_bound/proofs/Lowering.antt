-- Candidates after those that tell two inputs apart have paid.
use Rattle.std.proofs.Common.{◌≡◌, ◌<◌, ◌≤◌, ◌-◌, ℕ, ◌==◌, inl, inr, true, false, cond, List, [], ◌∷◌, map, length, refl, ◌∙◌, ap, arith}
use Rattle.std.specs.List.{Contains}
use Rattle.std.proofs.lemmas.Bool.{cases_Bool, eqb-true, eq-eqb}
use Rattle.eco_lists.proofs.Members.{Contains_cases, Contains_none}
use Rattle.eco_bound.specs.declared.payers.Payer.{Payer}
use Rattle.eco_bound.specs.declared.payers.Sight.{Sight}
use Rattle.eco_bound.specs.Payers.{tells_apart, lowered_by, net_of}
use Rattle.eco_bound.specs.Accounts.{one_if_some, some_left}

-- 0, or 1
none_zero : (left : ℕ) → left ≡ 0 → one_if_some left ≡ 0
none_zero left none = ap (λ bit. cond bit 0 1) (eq-eqb left 0 none)

at_most_one : (left : ℕ) → one_if_some left ≤ 1
at_most_one left = elim (cases_Bool (left == 0)) [
  | inl none ↦ let count : one_if_some left ≡ 0 = ap (λ bit. cond bit 0 1) none in omega (arith, count)
  | inr some ↦ let count : one_if_some left ≡ 1 = ap (λ bit. cond bit 0 1) some in omega (arith, count)
]

no_more : (less left : ℕ) → less ≤ left → one_if_some less ≤ one_if_some left
no_more less left below = elim (cases_Bool (left == 0)) [
  | inl none ↦
      let here : left ≡ 0 = eqb-true left 0 none in
      let count = none_zero less (omega (arith, below, here)) in
      omega (arith, count)
  | inr some ↦
      let count : one_if_some left ≡ 1 = ap (λ bit. cond bit 0 1) some in
      let few = at_most_one less in
      omega (arith, count, few)
]

one_here : (left : ℕ) → 1 ≤ left → one_if_some left ≡ 1
one_here left some = elim (cases_Bool (left == 0)) [
  | inl none ↦ let here : left ≡ 0 = eqb-true left 0 none in absurd (omega (arith, some, here))
  | inr is ↦ ap (λ bit. cond bit 0 1) is
]

-- they are no more than the candidates
pub some_are_few : (payers : List Payer) → some_left payers ≤ length payers
some_are_few [] = omega arith
some_are_few (payer ∷ payers) =
    let rest = some_are_few payers in
    let one = at_most_one payer.left in
    omega (arith, rest, one)

module _ (sight : Sight) (amount : ℕ) where
  pub lowered_told : (payer : Payer) → tells_apart sight payer.net ≡ true → lowered_by sight amount payer ≡ record { net = payer.net; left = payer.left - amount }
  lowered_told payer told = ap (λ bit. cond bit (record { net = payer.net; left = payer.left - amount }) payer) told

  pub lowered_silent : (payer : Payer) → tells_apart sight payer.net ≡ false → lowered_by sight amount payer ≡ payer
  lowered_silent payer silent = ap (λ bit. cond bit (record { net = payer.net; left = payer.left - amount }) payer) silent

  lowered_net : (payer : Payer) → net_of (lowered_by sight amount payer) ≡ net_of payer
  lowered_net payer = elim (cases_Bool (tells_apart sight payer.net)) [
    | inl told ↦ ap net_of (lowered_told payer told)
    | inr silent ↦ ap net_of (lowered_silent payer silent)
  ]

  -- the nets stay
  pub nets_lowered : (payers : List Payer) → map net_of (map (lowered_by sight amount) payers) ≡ map net_of payers
  nets_lowered [] = refl
  nets_lowered (payer ∷ payers) = cc (lowered_net payer, nets_lowered payers)

  lowered_left : (payer : Payer) → (lowered_by sight amount payer).left ≤ payer.left
  lowered_left payer = elim (cases_Bool (tells_apart sight payer.net)) [
    | inl told ↦ let same : (lowered_by sight amount payer).left ≡ payer.left - amount = ap (λ (one : Payer). one.left) (lowered_told payer told) in omega (arith, same)
    | inr silent ↦ let same : (lowered_by sight amount payer).left ≡ payer.left = ap (λ (one : Payer). one.left) (lowered_silent payer silent) in omega (arith, same)
  ]

  -- no more of them have some left
  fewer : (payers : List Payer) → some_left (map (lowered_by sight amount) payers) ≤ some_left payers
  fewer [] = omega arith
  fewer (payer ∷ payers) =
      let here = no_more (lowered_by sight amount payer).left payer.left (lowered_left payer) in
      let rest = fewer payers in
      omega (arith, here, rest)

  -- one less, where one paid all that it had
  pub fewer_by_one : (payers : List Payer) (payer : Payer) → Contains payers payer → tells_apart sight payer.net ≡ true → payer.left ≡ amount → 1 ≤ amount → some_left (map (lowered_by sight amount) payers) < some_left payers
  fewer_by_one [] payer c told all some = absurd (Contains_none payer c)
  fewer_by_one (first ∷ payers) payer c told all some =
      let rest = fewer payers in
      elim (Contains_cases first payer payers c) [
        | inl same ↦
            let here : first.left ≡ amount = ap (λ (one : Payer). one.left) same ∙ all in
            let paid : (lowered_by sight amount first).left ≡ first.left - amount = ap (λ (one : Payer). one.left) (lowered_told first (ap (λ (one : Payer). tells_apart sight one.net) same ∙ told)) in
            let none = none_zero (lowered_by sight amount first).left (omega (arith, paid, here)) in
            let one = one_here first.left (omega (arith, here, some)) in
            omega (arith, rest, none, one)
        | inr later ↦
            let here = no_more (lowered_by sight amount first).left first.left (lowered_left first) in
            let less = fewer_by_one payers payer later told all some in
            omega (arith, here, less)
      ]
