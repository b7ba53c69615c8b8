-- Bits of the nets that no gate drives go on to a consistent map: nets get their values again and again, until all stand.
use Rattle.std.proofs.Common.{◌≡◌, ◌⊎◌, inl, inr, ℕ, zero, suc, ◌+◌, ◌≤◌, Bool, List, [], ◌∷◌, map, refl, sym, ◌∙◌, ap, subst, arith}
use Rattle.std.specs.List.{Contains}
use Rattle.eco_lists.proofs.Members.{Contains_first, Contains_later, Contains_cases, Contains_none}
use Rattle.eco_meaning.specs.declared.name.Operand.{Operand}
use Rattle.eco_meaning.specs.declared.name.Operand.TheVariants.{Zero, One, Named}
use Rattle.eco_meaning.specs.Gates.{apply}
use Rattle.eco_meaning.specs.Circuit.{Circuit, NamedGate, Values, names, value_of, Reads, IsDriven, IsConsistent}
use Rattle.eco_laws.specs.Sound.{IsSound}
use Rattle.eco_laws.specs.Sources.{CanBeFilled}
use Rattle.eco_laws.proofs.Drivers.{cases_driven, one_driver}
use Rattle.eco_laws.proofs.AlongReads.{along_reads}
use Rattle.eco_laws.proofs.Sources.{same_terms}

-- what holds of each member from some number on holds of all from some number on
gather : {X : Type 0} (P : X → ℕ → Type 0) → ((x : X) (k m : ℕ) → k ≤ m → P x k → P x m) → (xs : List X) → ((x : X) → Contains xs x → (k : ℕ) × P x k) → (k : ℕ) × ((x : X) → Contains xs x → P x k)
gather P later [] each = (0, λ x c. absurd (Contains_none x c))
gather P later (y ∷ ys) each =
    let first = each y (Contains_first y ys) in
    let rest = gather P later ys (λ x c. each x (Contains_later y x ys c)) in (
      first.0 + rest.0,
      λ x c. elim (Contains_cases y x ys c) [
        | inl same ↦ subst (λ z. P z (first.0 + rest.0)) same (later y first.0 (first.0 + rest.0) (omega arith) first.1)
        | inr is ↦ later x rest.0 (first.0 + rest.0) (omega arith) (rest.1 x is)
      ],
    )

module _ (n : Circuit) (bits : Values) (sound : IsSound n) where
  -- a net's next value, by the values so far
  next_bit : Values → (name : List ℕ) → IsDriven n name ⊎ (IsDriven n name → ⊥) → Bool
  next_bit old name (inl driven) = apply driven.0.kind (map (value_of old) driven.0.terms)
  next_bit old name (inr none) = bits name

  abbrev round : ℕ → Values
  round zero = bits
  round (suc k) = λ name. next_bit (round k) name (cases_driven n name)

  undriven_bit : (old : Values) (name : List ℕ) (cases : IsDriven n name ⊎ (IsDriven n name → ⊥)) → (IsDriven n name → ⊥) → next_bit old name cases ≡ bits name
  unfolding next_bit
  undriven_bit old name (inl driven) none = absurd (none driven)
  undriven_bit old name (inr free) none = refl

  undriven_stays : (k : ℕ) (name : List ℕ) → (IsDriven n name → ⊥) → round k name ≡ bits name
  undriven_stays zero name none = refl
  undriven_stays (suc k) name none = undriven_bit (round k) name (cases_driven n name) none

  driven_bit : (old : Values) (g : NamedGate) → Contains n.gates g → (cases : IsDriven n g.out ⊎ (IsDriven n g.out → ⊥)) → next_bit old g.out cases ≡ apply g.kind (map (value_of old) g.terms)
  unfolding next_bit
  driven_bit old g member (inl driven) =
      let same = one_driver n sound driven.0 g driven.1 member driven.2 in
      ap (λ (h : NamedGate). apply h.kind (map (value_of old) h.terms)) same
  driven_bit old g member (inr none) = absurd (none (g, member, refl))

  round_at : (k : ℕ) (g : NamedGate) → Contains n.gates g → round (suc k) g.out ≡ apply g.kind (map (value_of (round k)) g.terms)
  round_at k g member = driven_bit (round k) g member (cases_driven n g.out)

  -- from this round on the net's value stands
  abbrev Stands : List ℕ → ℕ → Type 0
  Stands name k = (j : ℕ) → k ≤ j → round (suc j) name ≡ round j name

  abbrev TermStands : Operand → ℕ → Type 0
  TermStands Zero k = Unit {0}
  TermStands One k = Unit {0}
  TermStands (Named name) k = Stands name k

  term_later : (term : Operand) (k m : ℕ) → k ≤ m → TermStands term k → TermStands term m
  term_later Zero k m le is = tt
  term_later One k m le is = tt
  term_later (Named name) k m le is = λ j after. is j (omega (arith, le, after))

  term_stands : (terms : List Operand) → ((name : List ℕ) → Contains terms (Named name) → (k : ℕ) × Stands name k) → (term : Operand) → Contains terms term → (k : ℕ) × TermStands term k
  term_stands terms each Zero c = (0, tt)
  term_stands terms each One c = (0, tt)
  term_stands terms each (Named name) c = each name c

  stands_at_last : (name : List ℕ) → Contains (names n) name → (k : ℕ) × Stands name k
  stands_at_last =
      along_reads n sound (λ name. (k : ℕ) × Stands name k)
      (λ name net none. (0, λ j le. undriven_stays (suc j) name none ∙ sym (undriven_stays j name none)))
      (λ g member before.
      let all = gather TermStands term_later g.terms (term_stands g.terms before) in
      (suc all.0, λ j after. gate_stands all.0 g member (λ name reads. all.1 (Named name) reads) j after))
    where
      gate_stands : (k : ℕ) (g : NamedGate) → Contains n.gates g → ((name : List ℕ) → Reads g name → Stands name k) → (j : ℕ) → suc k ≤ j → round (suc j) g.out ≡ round j g.out
      gate_stands k g member before zero after = absurd (omega arith)
      gate_stands k g member before (suc j) after =
          round_at (suc j) g member
          ∙ ap (apply g.kind) (same_terms (round (suc j)) (round j) g (λ name reads. before name reads j (omega arith)))
          ∙ sym (round_at j g member)

  pub filled : (v : Values) × IsConsistent n v × ((name : List ℕ) → (IsDriven n name → ⊥) → v name ≡ bits name)
  filled =
      let all = gather Stands (λ name k m le is j after. is j (omega (arith, le, after))) (names n) stands_at_last in
      (round all.0, λ g member. sym (all.1 g.out (sound.driven_nets g member) all.0 (omega arith)) ∙ round_at all.0 g member, λ name none. undriven_stays all.0 name none)

pub can_be_filled : CanBeFilled
can_be_filled = filled
