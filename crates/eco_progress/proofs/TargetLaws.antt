-- The nets of the targets, by their numbers.
use Rattle.std.proofs.Common.{◌≡◌, ℕ, ◌<◌, List, [], ◌∷◌, ◌++◌, Some, length, get_or, sym, ◌∙◌, ap, arith}
use Rattle.std.specs.List.{slice_get}
use Rattle.std.proofs.lemmas.List.{length-append, length-map, get_or-map}
use Rattle.std.proofs.lemmas.Option.{get_or_from_slice_get}
use Rattle.eco_lists.proofs.Places.{slice_get-back}
use Rattle.eco_meaning.specs.Circuit.{Circuit, names, AreTargets}
use Rattle.eco_gates.specs.declared.gate.NetId.{NetId}
use Rattle.eco_netlist.specs.Netlists.{name_at, names_at}
use Rattle.eco_netlist.proofs.MisfitLemmas.{targets_unique}

module _ (f : Circuit) (nets : List NetId) (before : List (List ℕ)) (target : List ℕ) (behind : List (List ℕ)) (named : AreTargets f (names_at (names f) nets)) (are : AreTargets f (before ++ target ∷ behind)) where
  names_are : names_at (names f) nets ≡ before ++ target ∷ behind
  names_are = targets_unique f (names_at (names f) nets) (before ++ target ∷ behind) named are

  -- there is one of this number
  pub target_within : length before < length nets
  target_within = omega (arith, ap length names_are, length-map nets (λ (net : NetId). name_at (names f) net.0), length-append before (target ∷ behind))

  -- it is named so
  pub target_named : (i : ℕ) (d : NetId) (name : List ℕ) → length before ≡ i → slice_get (names f) (get_or nets i d).0 ≡ Some name → name ≡ target
  target_named i d name len found =
      let there : slice_get (before ++ target ∷ behind) i ≡ Some target = slice_get-back before (target ∷ behind) i 0 (omega (arith, len)) in
      let within : i < length nets = omega (arith, target_within, len) in
      sym (get_or_from_slice_get (names f) (get_or nets i d).0 name [] found)
      ∙ sym (get_or-map (λ (net : NetId). name_at (names f) net.0) nets i d [] within)
      ∙ ap (λ l. get_or l i []) names_are
      ∙ get_or_from_slice_get (before ++ target ∷ behind) i target [] there
