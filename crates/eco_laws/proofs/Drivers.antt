-- Which gate drives a net.
use Rattle.std.proofs.Common.{◌≡◌, ◌≢◌, ◌⊎◌, inl, inr, ℕ, ◌<◌, List, Some, map, sym, ◌∙◌, ap, subst}
use Rattle.std.specs.List.{slice_get, Contains}
use Rattle.std.specs.Option.{option_map}
use Rattle.std.proofs.lemmas.Bool.{cases_order}
use Rattle.std.proofs.lemmas.Option.{slice_get-map}
use Rattle.eco_lists.proofs.Members.{Contains-map, map-Contains}
use Rattle.eco_lists.proofs.Places.{place_of, pair_at}
use Rattle.eco_meaning.specs.Circuit.{Circuit, NamedGate, IsDriven}
use Rattle.eco_laws.specs.Sound.{IsSound}
use Rattle.eco_laws.proofs.Members.{cases_member}

-- the net that a gate drives
abbrev pub out_of : NamedGate → List ℕ
out_of g = g.out

-- some gate drives the net, or none does
pub cases_driven : (n : Circuit) (name : List ℕ) → IsDriven n name ⊎ (IsDriven n name → ⊥)
cases_driven n name =
    elim (cases_member (map out_of n.gates) name) [
      | inl c ↦ inl (map-Contains out_of n.gates name c)
      | inr none ↦ inr (λ d. none (subst (Contains (map out_of n.gates)) d.2 (Contains-map out_of n.gates d.0 d.1)))
    ]

-- gates that drive one net are one
pub one_driver : (n : Circuit) → IsSound n → (g h : NamedGate) → Contains n.gates g → Contains n.gates h → g.out ≡ h.out → g ≡ h
one_driver n sound g h has_g has_h same =
    let at_g = place_of n.gates g has_g in
    let at_h = place_of n.gates h has_h in
    elim (cases_order at_g.0 at_h.0) [
      | inl here ↦
          let one : Some g ≡ Some h = sym at_g.1 ∙ ap (slice_get n.gates) here ∙ at_h.1 in
          cc one
      | inr differ ↦ elim differ [
        | inl less ↦ absurd (apart n sound at_g.0 at_h.0 g h less at_g.1 at_h.1 same)
        | inr more ↦ absurd (apart n sound at_h.0 at_g.0 h g more at_h.1 at_g.1 (sym same))
      ]
    ]
  where
    apart : (n : Circuit) → IsSound n → (i j : ℕ) (g h : NamedGate) → i < j → slice_get n.gates i ≡ Some g → slice_get n.gates j ≡ Some h → g.out ≡ h.out → ⊥
    apart n sound i j g h less at_i at_j same =
        pair_at (λ a b. a ≢ b) (map out_of n.gates) i j g.out h.out sound.driven_once less
        (slice_get-map out_of n.gates i ∙ ap (option_map out_of) at_i) (slice_get-map out_of n.gates j ∙ ap (option_map out_of) at_j) same
