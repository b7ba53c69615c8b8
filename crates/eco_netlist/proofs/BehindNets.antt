-- The last targets and the first outputs of a netlist.
use Rattle.std.proofs.Common.{◌≡◌, ℕ, List, length, refl, sym, subst}
use Rattle.std.specs.List.{IsDistinct}
use Rattle.std.specs.Str.{bytes_eq}
use Rattle.eco_meaning.specs.Names.{has}
use Rattle.eco_meaning.specs.Circuit.{Circuit, AreTargets}
use Rattle.eco_gates.specs.Spread.{AreGreatest, AreLeast}
use Rattle.eco_netlist.specs.Reached.{ArePlaces, AreLasts, AreFirstOutputs}
use Rattle.eco_netlist.specs.Netlists.{names_at}
use Rattle.eco_netlist.specs.declared.netlist.Netlist.TheInside.{Inside}
use Rattle.eco_netlist.specs.Numbered.{circuit_of, IsNumbered}
use Rattle.eco_netlist.proofs.BehindLemmas.{lasts_by_name, firsts_by_name}
use Rattle.eco_netlist.proofs.MisfitLemmas.{targets_unique}
use Rattle.eco_netlist.proofs.NameSets.{distinct-filter, distinct_front}

-- by the numbers of the nets
pub lasts_of_netlist : (n : Inside) → IsNumbered n → (f : Circuit) → circuit_of n ≡ f → (targets : List (List ℕ)) (starts lasts : List ℕ) → AreTargets f targets → ArePlaces (length n.names.keys) n.targets.items (length n.targets.items) 1 0 starts → AreGreatest n.gates.items starts lasts → AreLasts f targets lasts
lasts_of_netlist n is f view targets starts lasts are places greatest =
    let mine = lasts_by_name (circuit_of n) n.names.keys n.gates.items n.targets.items starts lasts is.numbers refl
    (subst (λ (l : List (List ℕ)). IsDistinct bytes_eq l) is.numbers is.checked.distinct) is.gate_nets is.target_nets places greatest in
    let same : names_at n.names.keys n.targets.items ≡ targets = targets_unique (circuit_of n) (names_at n.names.keys n.targets.items) targets is.free (subst (λ (c : Circuit). AreTargets c targets) (sym view) are) in
    subst (λ (c : Circuit). AreLasts c targets lasts) view (subst (λ (l : List (List ℕ)). AreLasts (circuit_of n) l lasts) same mine)

pub outputs_distinct : (n : Inside) → IsNumbered n → IsDistinct bytes_eq (names_at n.names.keys n.outputs.items)
outputs_distinct n is =
    let circuit = circuit_of n in
    subst (λ (l : List (List ℕ)). IsDistinct bytes_eq l) (sym is.checked.outputs) (distinct-filter (has circuit.outputs) circuit.ports (distinct_front circuit.ports circuit.wires is.checked.distinct))

pub firsts_of_netlist : (n : Inside) → IsNumbered n → (p : Circuit) → circuit_of n ≡ p → (ends firsts : List ℕ) → ArePlaces (length n.names.keys) n.outputs.items (length n.outputs.items) 0 (length n.outputs.items) ends → AreLeast n.gates.items ends firsts → AreFirstOutputs p firsts
firsts_of_netlist n is p view ends firsts places least =
    subst (λ (c : Circuit). AreFirstOutputs c firsts) view
    (firsts_by_name (circuit_of n) n.names.keys n.gates.items n.outputs.items ends firsts is.numbers refl refl
    (subst (λ (l : List (List ℕ)). IsDistinct bytes_eq l) is.numbers is.checked.distinct) is.gate_nets is.output_nets places least)
