-- Bits that stand at the nets of the inputs, and the maps that keep them.
use Rattle.std.proofs.Common.{◌≡◌, ◌≢◌, inl, inr, ℕ, ◌<◌, Bool, false, Some, option_map, List, [], length, map, sym, ◌∙◌, ap, subst, arith}
use Rattle.std.specs.List.{slice_get, AllPairs}
use Rattle.std.proofs.lemmas.List.{length-map}
use Rattle.std.proofs.lemmas.Option.{slice_get-map, slice_get-get_or, slice_get_within, get_or_from_slice_get}
use Rattle.eco_lists.proofs.Places.{All_at, Contains_at, item_at, pair_at, pairs_from_places, place_of, same_by_places}
use Rattle.eco_meaning.specs.Circuit.{Circuit, Values, names, IsDriven, IsTarget}
use Rattle.eco_gates.specs.declared.gate.NetId.{NetId}
use Rattle.eco_laws.specs.Sound.{IsSound}
use Rattle.eco_netlist.specs.Netlists.{AreNets, KeepsUndriven, name_at, names_at}
use Rattle.eco_netlist.specs.Values.{HasInputBits}

-- different names are those of different nets
pub nets_differ : (list : List (List ℕ)) (nets : List NetId) → AllPairs (λ a b. a ≢ b) (names_at list nets) → AllPairs (λ (a b : NetId). a.0 ≢ b.0) nets
nets_differ list nets apart =
    pairs_from_places (λ (a b : NetId). a.0 ≢ b.0) nets (λ i j a b less at_a at_b same.
    let named : (k : ℕ) (net : NetId) → slice_get nets k ≡ Some net → slice_get (names_at list nets) k ≡ Some (name_at list net.0) =
    λ k net at. slice_get-map (λ (n : NetId). name_at list n.0) nets k ∙ ap (option_map (λ (n : NetId). name_at list n.0)) at in
    pair_at (λ a b. a ≢ b) (names_at list nets) i j (name_at list a.0) (name_at list b.0) apart less (named i a at_a) (named j b at_b)
    (ap (name_at list) same))

-- a map that gives undriven nets the bits that stand at their places has the input whose bits stand there
pub input_of_map : (n : Circuit) (nets : List NetId) (x old : List Bool) (v : Values) → IsSound n → names_at (names n) nets ≡ n.inputs → AreNets (names n) nets → length nets ≡ length x →
    HasInputBits (length (names n)) nets x (length nets) old → KeepsUndriven n v old → map v n.inputs ≡ x
input_of_map n nets x old v sound named within count started kept =
    let long : length n.inputs ≡ length x = sym (ap length named) ∙ length-map nets (λ (net : NetId). name_at (names n) net.0) ∙ count in
    same_by_places (map v n.inputs) x (length-map n.inputs v ∙ long) (λ k lt.
    let inside : k < length nets = omega (arith, lt, length-map n.inputs v, long, count) in
    let (net, at) = item_at nets k inside in
    let is_named : slice_get n.inputs k ≡ Some (name_at (names n) net.0) =
    subst (λ list. slice_get list k ≡ Some (name_at (names n) net.0)) named
    (slice_get-map (λ (m : NetId). name_at (names n) m.0) nets k ∙ ap (option_map (λ (m : NetId). name_at (names n) m.0)) at) in
    let below : net.0 < length (names n) = All_at (λ (m : NetId). m.0 < length (names n)) nets k net within at in
    let free : IsDriven n (name_at (names n) net.0) → ⊥ = sound.inputs_free (name_at (names n) net.0) (Contains_at n.inputs k (name_at (names n) net.0) is_named) in
    slice_get-map v n.inputs k ∙ ap (option_map v) is_named
    ∙ sym (kept net.0 (name_at (names n) net.0) (slice_get-get_or (names n) net.0 [] below) free)
    ∙ started.here k net inside at)

-- and gives each target 0
pub target_of_map : (n : Circuit) (nets : List NetId) (x old : List Bool) (v : Values) → names_at (names n) nets ≡ n.inputs → length nets ≡ length x →
    HasInputBits (length (names n)) nets x (length nets) old → KeepsUndriven n v old → (name : List ℕ) → IsTarget n name → v name ≡ false
target_of_map n nets x old v named count started kept name target =
    let (k, at) = place_of (names n) name target.net in
    let free : IsDriven n name → ⊥ = λ driven. target.free (inr driven) in
    let other : (place : ℕ) (net : NetId) → place < length nets → slice_get nets place ≡ Some net → net.0 ≢ k =
    λ place net lt there same. target.free (inl (Contains_at n.inputs place name
    (subst (λ list. slice_get list place ≡ Some name) named
    (slice_get-map (λ (m : NetId). name_at (names n) m.0) nets place ∙ ap (option_map (λ (m : NetId). name_at (names n) m.0)) there
    ∙ ap Some (ap (name_at (names n)) same ∙ get_or_from_slice_get (names n) k name [] at))))) in
    let zero : Some (v name) ≡ Some false = sym (kept k name at free) ∙ started.others k (slice_get_within (names n) k name at) other in
    cc zero
