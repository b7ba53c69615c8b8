-- Each checked netlist has what the theorems on netlists take as given.
use Rattle.std.proofs.Common.{◌≡◌, ◌≢◌, ◌⊎◌, inl, inr, ℕ, Bool, true, false, not, List, map, refl, sym, subst}
use Rattle.std.specs.List.{AllPairs, Contains, filter}
use Rattle.std.proofs.lemmas.List.Elements.{Contains-append_left}
use Rattle.std.proofs.lemmas.List.Kept.{AllPairs-filter}
use Rattle.std.proofs.lemmas.Map.Made.{AllPairs-from_IsDistinct}
use Rattle.std.proofs.lemmas.Slice.Eq.{bytes_eq-Decides}
use Rattle.eco_lists.proofs.Places.{pairs_front}
use Rattle.eco_meaning.specs.Names.{has}
use Rattle.eco_meaning.specs.Circuit.{Circuit, NamedGate, names}
use Rattle.eco_lists.proofs.Members.{filter-Contains}
use Rattle.eco_laws.specs.Sound.{IsSound}
use Rattle.eco_netlist.specs.Netlists.{IsChecked}
use Rattle.eco_netlist.proofs.NameSets.{Contains-from_has}

-- a port's name is on one of the two lists
either : (inputs outputs : Bool) → inputs ≡ not outputs → (inputs ≡ true) ⊎ (outputs ≡ true)
either true outputs e = inl refl
either false true e = inr refl
either false false e = inl e

pub sound_netlist : (n : Circuit) → IsChecked n → IsSound n
sound_netlist n checked = record {
  distinct = distinct;
  inputs = λ name c. Contains-append_left n.ports n.wires name (kept n.inputs name (subst (λ list. Contains list name) checked.inputs c));
  inputs_once = subst (AllPairs (λ a b. a ≢ b)) (sym checked.inputs) (AllPairs-filter (λ a b. a ≢ b) (has n.inputs) n.ports (pairs_front (λ a b. a ≢ b) n.ports n.wires distinct));
  outputs = λ name c. Contains-append_left n.ports n.wires name (kept n.outputs name (subst (λ list. Contains list name) checked.outputs c));
  ports = λ name port. elim (either (has n.inputs name) (has n.outputs name) (checked.directed name port)) [
    | inl input ↦ inl (Contains-from_has n.inputs name input)
    | inr output ↦ inr (Contains-from_has n.outputs name output)
  ];
  driven_nets = checked.driven_nets;
  read_nets = checked.read_nets;
  driven_once = AllPairs-from_IsDistinct bytes_eq-Decides (map (λ (g : NamedGate). g.out) n.gates) checked.driven_once;
  inputs_free = checked.inputs_free;
  loop_free = checked.loop_free;
}
  where
    distinct : AllPairs (λ a b. a ≢ b) (names n)
    distinct = AllPairs-from_IsDistinct bytes_eq-Decides (names n) checked.distinct

    kept : (list : List (List ℕ)) (name : List ℕ) → Contains (filter (has list) n.ports) name → Contains n.ports name
    kept list name c = (filter-Contains (has list) n.ports name c).0
