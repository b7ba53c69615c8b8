-- A gate reads a name or none does.
use Rattle.std.proofs.Common.{◌≡◌, ◌≢◌, ◌⊎◌, inl, inr, ℕ, List, [], ◌∷◌, sym, ap, subst}
use Rattle.std.specs.List.{Contains}
use Rattle.eco_lists.proofs.Members.{Contains_first, Contains_later, Contains_cases, Contains_none}
use Rattle.eco_meaning.specs.declared.name.Operand.{Operand}
use Rattle.eco_meaning.specs.declared.name.Operand.TheVariants.{Zero, One, Named}
use Rattle.eco_meaning.specs.Circuit.{NamedGate, Reads}
use Rattle.eco_laws.proofs.Members.{cases_names}

-- the operand is the net of the name, or it isn't
cases_operand : (term : Operand) (name : List ℕ) → (term ≡ Named name) ⊎ (term ≢ Named name)
cases_operand Zero name = inr (λ same. cc same)
cases_operand One name = inr (λ same. cc same)
cases_operand (Named other) name =
    elim (cases_names other name) [
      | inl same ↦ inl (ap Named same)
      | inr differ ↦ inr (λ same. differ (cc same))
    ]

-- some operand is, or none
cases_terms : (terms : List Operand) (name : List ℕ) → Contains terms (Named name) ⊎ (Contains terms (Named name) → ⊥)
cases_terms [] name = inr (Contains_none (Named name))
cases_terms (term ∷ terms) name =
    elim (cases_operand term name) [
      | inl same ↦ inl (subst (Contains (term ∷ terms)) same (Contains_first term terms))
      | inr differ ↦ elim (cases_terms terms name) [
        | inl later ↦ inl (Contains_later term (Named name) terms later)
        | inr none ↦ inr (λ c. elim (Contains_cases term (Named name) terms c) [ inl same ↦ differ same | inr later ↦ none later ])
      ]
    ]

-- a gate of the list reads the name
abbrev pub IsReadIn : List NamedGate → List ℕ → Type 0
IsReadIn gates name = (gate : NamedGate) × Contains gates gate × Reads gate name

-- some gate does, or none
pub cases_read : (gates : List NamedGate) (name : List ℕ) → IsReadIn gates name ⊎ (IsReadIn gates name → ⊥)
cases_read [] name = inr (λ read. Contains_none read.0 read.1)
cases_read (first ∷ gates) name =
    elim (cases_terms first.terms name) [
      | inl reads ↦ inl (first, Contains_first first gates, reads)
      | inr unread ↦ elim (cases_read gates name) [
        | inl later ↦ inl (later.0, Contains_later first later.0 gates later.1, later.2)
        | inr none ↦ inr (λ read. elim (Contains_cases first read.0 gates read.1) [
          | inl same ↦ unread (subst (λ (g : NamedGate). Reads g name) (sym same) read.2)
          | inr later ↦ none (read.0, later, read.2)
        ])
      ]
    ]
