-- The turns on which known inputs differ are a row.
use Rattle.std.proofs.Common.{◌≡◌, ◌≢◌, inl, inr, ℕ, true, false, List, Some, option_map, map, sym, ◌∙◌, ap, subst}
use Rattle.std.specs.List.{slice_get}
use Rattle.std.proofs.lemmas.Option.{slice_get-map, same_Some}
use Rattle.eco_lists.proofs.Places.{place_of}
use Rattle.eco_lists.proofs.Tests.{cases_bits}
use Rattle.eco_meaning.specs.Circuit.{Circuit, Values}
use Rattle.eco_meaning.specs.Meaning.{Goal}
use Rattle.eco_least.specs.declared.sights.Sight.{Sight}
use Rattle.eco_least.specs.Telling.{IsSeenAt, IsRowAt, TellsApart}

-- equal lists of values have equal values at each place
same_at : (v u : Values) (turns : List (List ℕ)) (k : ℕ) (name : List ℕ) → slice_get turns k ≡ Some name → slice_get (map v turns) k ≡ slice_get (map u turns) k → v name ≡ u name
same_at v u turns k name at same =
    same_Some (v name) (u name)
    (sym (slice_get-map v turns k ∙ ap (option_map v) at) ∙ same ∙ slice_get-map u turns k ∙ ap (option_map u) at)

-- they have them or not
cases_at : (v u : Values) (turns : List (List ℕ)) (k : ℕ) (name : List ℕ) → slice_get turns k ≡ Some name → (slice_get (map v turns) k ≢ slice_get (map u turns) k → ⊥) → v name ≡ u name
cases_at v u turns k name at never =
    elim (cases_bits (v name) (u name)) [
      | inl same ↦ same
      | inr differ ↦ absurd (never (λ same. differ (same_at v u turns k name at same)))
    ]

pub row_is : (f : Circuit) (goal : Goal) (p : Circuit) (earlier : List (List ℕ)) (target : List ℕ) (paid turns : List (List ℕ)) (one zero : Sight) (row : List ℕ) →
    IsSeenAt f goal p earlier target paid turns true one → IsSeenAt f goal p earlier target paid turns false zero → TellsApart one zero row →
    IsRowAt f goal p earlier target paid turns row
row_is f goal p earlier target paid turns one zero row at_one at_zero told = record {
  one = at_one.input;
  zero = at_zero.input;
  forced_one = at_one.forced;
  forced_zero = at_zero.forced;
  paid_alike = λ v u v_is u_is name c.
      let (k, at) = place_of paid name c in
      same_at v u paid k name at (ap (λ bits. slice_get bits k) (at_one.seen.paid_values.only v v_is ∙ told.paid_same ∙ sym (at_zero.seen.paid_values.only u u_is)));
  others_alike = λ k name at absent v u v_is u_is other same.
      let ones = at_one.seen.turn_values.only v v_is in
      let zeros = at_zero.seen.turn_values.only u u_is in
      let alike = cases_at v u turns k name at (λ differ. absent (told.differ.all k (λ equal. differ (ap (λ bits. slice_get bits k) ones ∙ equal ∙ sym (ap (λ bits. slice_get bits k) zeros))))) in
      subst (λ n. v n ≡ u n) (sym same) alike;
}
