-- How many targets an implementation has.
use Rattle.std.proofs.Common.{◌≡◌, List, length, subst}
use Rattle.std.proofs.lemmas.List.{length-map}
use Rattle.eco_meaning.specs.Circuit.{Circuit, names, AreTargets}
use Rattle.eco_gates.specs.declared.gate.NetId.{NetId}
use Rattle.eco_netlist.specs.Netlists.{name_at, names_at}
use Rattle.eco_query.specs.Problem.{HasTargets}

-- there are as many targets as nets of them
pub has_targets : (f netlist : Circuit) (nets : List NetId) → netlist ≡ f → AreTargets netlist (names_at (names netlist) nets) → HasTargets f (length nets)
has_targets f netlist nets same are =
    subst (λ (x : Circuit). HasTargets x (length nets)) same
    (names_at (names netlist) nets, are, length-map nets (λ (net : NetId). name_at (names netlist) net.0))
