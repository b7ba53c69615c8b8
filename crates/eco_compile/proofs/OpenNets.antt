-- The nets that are given edges: the inputs and the targets, which are different nets, and which no gate drives.
use Rattle.std.proofs.Common.{◌≡◌, ◌≢◌, ℕ, ◌<◌, ◌≤◌, Bool, List, [], ◌++◌, Some, length, set, map, sym, ◌∙◌, ap, subst, arith, inl, inr, length-set, ◌+◌}
use Rattle.std.specs.Prelude.{option_map}
use Rattle.std.specs.List.{slice_get, AllPairs, Contains, IsDistinct}
use Rattle.std.specs.Str.{bytes_eq}
use Rattle.std.proofs.lemmas.Bool.{cases_eq}
use Rattle.std.proofs.lemmas.List.{length-map}
use Rattle.std.proofs.lemmas.List.Elements.{Contains-append_cases}
use Rattle.std.proofs.lemmas.Option.{slice_get-get_or, slice_get_within, slice_get-map, same_Some}
use Rattle.eco_meaning.specs.Circuit.{Circuit, names, IsConsistent, IsDriven, IsTarget, AreTargets}
use Rattle.eco_meaning.specs.Names.{has}
use Rattle.eco_gates.specs.declared.gate.NetId.{NetId}
use Rattle.eco_gates.specs.GateValue.{GateValue}
use Rattle.eco_gates.specs.Gates.{IsUndriven}
use Rattle.eco_gates.specs.Evaluation.{IsConsistentAt}
use Rattle.eco_lists.proofs.Places.{place_of, Contains_at, All_at, All_from_places, pairs_from_places, set_cases, slice_get-set_same, slice_get-set_other, same_place_by}
use Rattle.eco_netlist.specs.Netlists.{IsChecked, name_at, names_at, AreNets}
use Rattle.eco_netlist.proofs.NameLemmas.{one_place, unmapped}
use Rattle.eco_netlist.proofs.NameSets.{distinct-filter, distinct_front, IsDistinct-append}
use Rattle.eco_netlist.proofs.ValueLemmas.{IsNamed, undriven_by_number, map-bit_of, consistent_by_name}
use Rattle.eco_netlist.proofs.MisfitLemmas.{targets_unique}
use Rattle.eco_netlist.proofs.BehindLemmas.{targets_distinct}
use Rattle.eco_aig.specs.declared.edge.Edge.{Edge}
use Rattle.eco_aig.specs.declared.node.Node.{Node}
use Rattle.eco_aig.specs.Edges.{value_of, bits_of}
use Rattle.eco_aig.specs.Graph.{IsEdge}
use Rattle.eco_compile.specs.Compiled.{AreEdges, IsBound, values_of}

-- the inputs and the targets together have different names
open_distinct : (n : Circuit) (targets : List (List ℕ)) → IsChecked n → AreTargets n targets → IsDistinct bytes_eq (n.inputs ++ targets)
open_distinct n targets checked are =
    IsDistinct-append n.inputs targets (subst (IsDistinct bytes_eq) (sym checked.inputs) (distinct-filter (has n.inputs) n.ports (distinct_front n.ports n.wires checked.distinct))) (targets_distinct n targets are) (λ name input target.
    let at = place_of targets name target in
    (All_at (IsTarget n) targets at.0 name are.sound at.1).free (inl input))

-- so they are different nets
pub open_apart : (n : Circuit) (targets : List (List ℕ)) (nets : List NetId) → IsChecked n → AreTargets n targets → names_at (names n) nets ≡ n.inputs ++ targets → AllPairs (λ a b. a.0 ≢ b.0) nets
open_apart n targets nets checked are named =
    pairs_from_places (λ a b. a.0 ≢ b.0) nets (λ i j a b lt at_i at_j same.
    let at_name : (k : ℕ) (net : NetId) → slice_get nets k ≡ Some net → slice_get (n.inputs ++ targets) k ≡ Some (name_at (names n) net.0) = λ k net at. ap (λ (list : List (List ℕ)). slice_get list k) (sym named) ∙ slice_get-map (λ (net : NetId). name_at (names n) net.0) nets k ∙ ap (option_map (λ (net : NetId). name_at (names n) net.0)) at in
    let at_j_same : slice_get (n.inputs ++ targets) j ≡ Some (name_at (names n) a.0) = at_name j b at_j ∙ ap (λ (k : ℕ). Some (name_at (names n) k)) (sym same) in
    let equal = one_place (n.inputs ++ targets) i j (name_at (names n) a.0) (open_distinct n targets checked are) (at_name i a at_i) at_j_same in
    omega (arith, lt, equal))

-- the first k of the nets have the given edges
pub record IsBoundTo (nodes : List Node) (nets : List NetId) (bind : List Edge) (count k : ℕ) (edges : List Edge) : Type 0 where
  pub len : length edges ≡ count
  pub are : AreEdges nodes edges
  pub bound : (j : ℕ) (net : NetId) → j < k → slice_get nets j ≡ Some net → slice_get edges net.0 ≡ slice_get bind j

-- one more net
pub bound_more : (nodes : List Node) (nets : List NetId) (bind : List Edge) (count k : ℕ) (edges : List Edge) (net : NetId) (e : Edge) → AllPairs (λ a b. a.0 ≢ b.0) nets → slice_get nets k ≡ Some net → slice_get bind k ≡ Some e → net.0 < count → IsEdge nodes e → IsBoundTo nodes nets bind count k edges → IsBoundTo nodes nets bind count (k + 1) (set edges net.0 e)
bound_more nodes nets bind count k edges net e apart at_k bind_k lt within is = record {
  len = length-set edges net.0 e ∙ is.len;
  are = All_from_places (IsEdge nodes) (set edges net.0 e) (λ j x at. elim (set_cases edges net.0 e j x at) [
    | inl here ↦ subst (IsEdge nodes) (sym here.1) within
    | inr other ↦ All_at (IsEdge nodes) edges j x is.are other.1
  ]);
  bound = λ j other below at_j. elim (cases_eq j k) [
    | inl same ↦
        let equal : other ≡ net = same_Some other net (sym at_j ∙ ap (slice_get nets) same ∙ at_k) in
        ap (λ (n : NetId). slice_get (set edges net.0 e) n.0) equal ∙ slice_get-set_same edges net.0 e (subst (λ (n : ℕ). net.0 < n) (sym is.len) lt) ∙ sym (ap (slice_get bind) same ∙ bind_k)
    | inr ne ↦
        slice_get-set_other edges net.0 other.0 e (λ same. ne (same_place_by (λ (n : NetId). n.0) nets j k other net apart at_j at_k same)) ∙ is.bound j other (omega (arith, below, ne)) at_j
  ];
}

-- all nets: the inputs and the targets have the given edges
pub bound_all : (n : Circuit) (targets : List (List ℕ)) (nodes : List Node) (nets : List NetId) (bind edges : List Edge) (count k : ℕ) → IsChecked n → AreTargets n targets → names_at (names n) nets ≡ n.inputs ++ targets → AreNets (names n) nets → length nets ≤ k → IsBoundTo nodes nets bind count k edges → IsBound n bind edges
bound_all n targets nodes nets bind edges count k checked are named within le is = record {
  bound = λ others are_others j net name at_j at_net.
      let same : n.inputs ++ others ≡ n.inputs ++ targets = ap (λ list. n.inputs ++ list) (targets_unique n others targets are_others are) in
      let here : slice_get (names_at (names n) nets) j ≡ Some name = ap (λ (list : List (List ℕ)). slice_get list j) (named ∙ sym same) ∙ at_j in
      let found = unmapped (λ (net : NetId). name_at (names n) net.0) nets j name here in
      let lt : found.0.0 < length (names n) = All_at (λ (net : NetId). net.0 < length (names n)) nets j found.0 within found.1 in
      let at_found : slice_get (names n) found.0.0 ≡ Some name = slice_get-get_or (names n) found.0.0 [] lt ∙ ap (λ x. Some x) found.2 in
      let place : found.0.0 ≡ net = one_place (names n) found.0.0 net name checked.distinct at_found at_net in
      let below : j < k = (let w = slice_get_within nets j found.0 found.1 in omega (arith, w, le)) in
      sym (ap (slice_get edges) place) ∙ is.bound j found.0 below found.1;
}

-- no gate drives an input or a target
open_undriven : (n : Circuit) (targets : List (List ℕ)) (name : List ℕ) → IsChecked n → AreTargets n targets → Contains (n.inputs ++ targets) name → IsDriven n name → ⊥
open_undriven n targets name checked are c driven = elim (Contains-append_cases n.inputs targets name c) [
  | inl input ↦ checked.inputs_free name input driven
  | inr target ↦ (let at = place_of targets name target in (All_at (IsTarget n) targets at.0 name are.sound at.1).free (inr driven))
]

-- so these keep their edges where gates get theirs
pub bound_stays : (n : Circuit) (gates : List GateValue) (bind old new : List Edge) → IsChecked n → IsNamed n (names n) gates → ((net : ℕ) → IsUndriven gates net → slice_get new net ≡ slice_get old net) → IsBound n bind old → IsBound n bind new
bound_stays n gates bind old new checked is kept bound = record {
  bound = λ targets are k net name at_k at_net.
      kept net (undriven_by_number n (names n) gates net name is at_net (open_undriven n targets name checked are (Contains_at (n.inputs ++ targets) k name at_k)))
      ∙ bound.bound targets are k net name at_k at_net;
}

-- the bit of each net under its name
pub named_values : (n : Circuit) (edges : List Edge) (w : ℕ → Bool) → IsDistinct bytes_eq (names n) → length edges ≡ length (names n) → map (values_of n w edges) (names n) ≡ bits_of w edges
named_values n edges w distinct len = map-bit_of (names n) (bits_of w edges) distinct (length-map edges (value_of w) ∙ len)

-- the bits of the nets by their names are consistent
pub consistent_values : (n : Circuit) (gates : List GateValue) (edges : List Edge) (w : ℕ → Bool) → IsNamed n (names n) gates → length edges ≡ length (names n) → IsConsistentAt gates (bits_of w edges) → IsConsistent n (values_of n w edges)
consistent_values n gates edges w is len consistent =
    consistent_by_name n (names n) gates (values_of n w edges) is (subst (IsConsistentAt gates) (sym (named_values n edges w is.distinct len)) consistent)
