-- The table of drivers, gate by gate.
use Rattle.std.proofs.Common.{◌≡◌, ℕ, ◌+◌, ◌<◌, ◌≤◌, inl, inr, List, Option, Some, length, set, sym, ◌∙◌, ap, subst, arith, length-set}
use Rattle.std.specs.List.{slice_get}
use Rattle.std.proofs.lemmas.Bool.{cases_eq}
use Rattle.std.proofs.lemmas.Option.{slice_get_within, same_Some}
use Rattle.eco_gates.specs.GateValue.{GateValue}
use Rattle.eco_gates.specs.Gates.{IsGateWithin, IsWithin, IsOnceDriven}
use Rattle.eco_gates.specs.Walk.{AreDrivers}
use Rattle.eco_lists.proofs.Places.{All_at, same_place_by, set_cases, slice_get-set_same, slice_get-set_other}

-- the table has the drivers among the first gates
pub record AreDriversTo (nets : ℕ) (gates : List GateValue) (drivers : List (Option ℕ)) (count : ℕ) : Type 0 where
  pub len : length drivers ≡ nets
  pub sound : (net i : ℕ) → slice_get drivers net ≡ Some (Some i) → (g : GateValue) × (slice_get gates i ≡ Some g) × (g.out.0 ≡ net)
  pub complete : (i : ℕ) (g : GateValue) → i < count → slice_get gates i ≡ Some g → slice_get drivers g.out.0 ≡ Some (Some i)

pub drivers_more : (nets : ℕ) (gates : List GateValue) (drivers : List (Option ℕ)) (count : ℕ) (g : GateValue) → IsWithin nets gates → IsOnceDriven gates → slice_get gates count ≡ Some g → AreDriversTo nets gates drivers count → AreDriversTo nets gates (set drivers g.out.0 (Some count)) (count + 1)
drivers_more nets gates drivers count g within once at are =
    let room : g.out.0 < length drivers = subst (λ (n : ℕ). g.out.0 < n) (sym are.len) (All_at (IsGateWithin nets) gates count g within at).out in
    record {
      len = length-set drivers g.out.0 (Some count) ∙ are.len;
      sound = λ net i e. elim (set_cases drivers g.out.0 (Some count) net (Some i) e) [
        | inl here ↦ (g, ap (slice_get gates) (same_Some i count here.1) ∙ at, sym here.0)
        | inr other ↦ are.sound net i other.1
      ];
      complete = λ i h lt at_i. elim (cases_eq i count) [
        | inl same ↦
            let gh : h ≡ g = same_Some h g (sym at_i ∙ ap (slice_get gates) same ∙ at) in
            ap (λ (x : GateValue). slice_get (set drivers g.out.0 (Some count)) x.out.0) gh ∙ slice_get-set_same drivers g.out.0 (Some count) room ∙ ap (λ (n : ℕ). Some (Some n)) (sym same)
        | inr ne ↦ slice_get-set_other drivers g.out.0 h.out.0 (Some count) (λ e. ne (same_place_by (λ (x : GateValue). x.out.0) gates i count h g once at_i at e)) ∙ are.complete i h (omega (arith, lt, ne)) at_i
      ];
    }

pub drivers_all : (nets : ℕ) (gates : List GateValue) (drivers : List (Option ℕ)) (count : ℕ) → length gates ≤ count → AreDriversTo nets gates drivers count → AreDrivers nets gates drivers
drivers_all nets gates drivers count le are = record {
  len = are.len;
  sound = are.sound;
  complete = λ i g at. are.complete i g (let lt = slice_get_within gates i g at in omega (arith, lt, le)) at;
}
