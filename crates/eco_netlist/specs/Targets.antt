-- Nets that are targets, by a test of their names.
use Rattle.std.specs.Prelude.{◌≡◌, ℕ, ◌<◌, Bool, true, List, length, map, Some, All, Contains}
use Rattle.std.specs.BTreeMap.{BTreeMap, IsOrdered, get}
use Rattle.std.specs.List.Sorted.{IsStrictlyIncreasing}
use Rattle.std.specs.Ordering.{nat_cmp}
use Rattle.eco_meaning.specs.Names.{target_number}
use Rattle.eco_gates.specs.declared.gate.NetId.{NetId}
use Rattle.eco_netlist.specs.declared.tally.Tally.{Tally}
use Rattle.eco_netlist.specs.Tallies.{tally_at}
use Rattle.eco_netlist.specs.Netlists.{name_at, names_at, AreNets}

-- the map has, by the numbers in their names, those of the first nets whose names pass the test
pub record HasTargets (free : List ℕ → Bool) (list : List (List ℕ)) (seen : ℕ) (targets : BTreeMap ℕ NetId) : Type 0 where
  pub ordered : IsOrdered nat_cmp targets
  pub below : (number : ℕ) (net : NetId) → get nat_cmp targets number ≡ Some net → net.0 < seen
  pub sound : (number : ℕ) (net : NetId) → get nat_cmp targets number ≡ Some net → free (name_at list net.0) ≡ true
  pub numbered : (number : ℕ) (net : NetId) → get nat_cmp targets number ≡ Some net → target_number (name_at list net.0) ≡ number
  pub complete : (k : ℕ) → k < seen → free (name_at list k) ≡ true
      → get nat_cmp targets (target_number (name_at list k)) ≡ Some (record { 0 = k })

-- these are the nets whose names pass the test, in the order of the numbers in their names
pub record AreFree (free : List ℕ → Bool) (list : List (List ℕ)) (nets : List NetId) : Type 0 where
  pub within : AreNets list nets
  pub ordered : IsStrictlyIncreasing (map target_number (names_at list nets))
  pub sound : All (λ net. free (name_at list net.0) ≡ true) nets
  pub complete : (k : ℕ) → k < length list → free (name_at list k) ≡ true → Contains nets (record { 0 = k })

-- these are the counts of each name
abbrev pub AreCounts : List (List ℕ) → List Tally → (List ℕ → Tally) → Type 0
AreCounts names tallies counts = (net : ℕ) → net < length names → counts (name_at names net) ≡ tally_at tallies net
