-- How many targets there are.
use Rattle.std.proofs.Common.{◌≡◌, ◌∙◌, ℕ, Bool, List, length, sym, ap, subst}
use Rattle.std.specs.List.{All}
use Rattle.std.proofs.lemmas.List.{length-map}
use Rattle.eco_meaning.specs.Circuit.{Circuit, names, AreTargets}
use Rattle.eco_gates.specs.declared.gate.NetId.{NetId}
use Rattle.eco_netlist.specs.Netlists.{name_at, names_at}
use Rattle.eco_netlist.proofs.MisfitLemmas.{targets_unique}
use Rattle.eco_pose.specs.Questions.{AreRowsOf}

-- as many names as nets
pub name_count : (list : List (List ℕ)) (nets : List NetId) → length (names_at list nets) ≡ length nets
name_count list nets = length-map nets (λ (net : NetId). name_at list net.0)

-- as many targets as nets that are listed as such
pub target_count : (f : Circuit) (nets : List NetId) (targets : List (List ℕ)) → AreTargets f (names_at (names f) nets) → AreTargets f targets → length nets ≡ length targets
target_count f nets targets listed are = sym (name_count (names f) nets) ∙ ap length (targets_unique f (names_at (names f) nets) targets listed are)

-- rows with a bit for each listed net are rows of the targets
pub rows_of_targets : (f : Circuit) (nets : List NetId) (rows : List (List Bool)) → AreTargets f (names_at (names f) nets) → All (λ (row : List Bool). length row ≡ length nets) rows → (targets : List (List ℕ)) → AreTargets f targets → AreRowsOf targets rows
rows_of_targets f nets rows listed wide targets are = subst (λ (count : ℕ). All (λ (row : List Bool). length row ≡ count) rows) (target_count f nets targets listed are) wide
