-- The edges of chosen nets have their values.
use Rattle.std.proofs.Common.{◌≡◌, ℕ, ◌+◌, ◌<◌, Bool, List, [], ◌++◌, length, get_or, map, sym, ◌∙◌, ap, subst, length-append}
use Rattle.std.proofs.lemmas.List.{map-append}
use Rattle.std.proofs.lemmas.List.Elements.{All-append}
use Rattle.std.proofs.lemmas.Option.{slice_get-get_or}
use Rattle.eco_lists.proofs.Members.{map-map}
use Rattle.eco_lists.proofs.Places.{All_at, All_from_places, map_agree}
use Rattle.eco_meaning.specs.Circuit.{Circuit, names, IsConsistent, AreTargets}
use Rattle.eco_gates.specs.declared.gate.NetId.{NetId}
use Rattle.eco_netlist.specs.Netlists.{IsChecked, name_at, names_at, AreNets}
use Rattle.eco_netlist.proofs.NameLemmas.{unmapped}
use Rattle.eco_netlist.proofs.MisfitLemmas.{targets_unique}
use Rattle.eco_aig.specs.declared.edge.Edge.{Edge}
use Rattle.eco_aig.specs.declared.node.Node.{Node}
use Rattle.eco_aig.specs.Edges.{value_of, plain, bits_of}
use Rattle.eco_aig.specs.Graph.{IsEdge, IsValuation}
use Rattle.eco_compile.specs.Compiled.{AreEdges, HasOpenNets, IsBound, values_of}
use Rattle.eco_compile.specs.Valued.{AreValued}
use Rattle.eco_compile.proofs.ByName.{bound_bits, value_at_name, place_in_table}

-- the edge of a net
abbrev pub edge_at : List Edge → NetId → Edge
edge_at edges net = get_or edges net.0 (plain 0)

-- the chosen nets have the bits of their edges
picked_bits : (n : Circuit) (edges : List Edge) (nets : List NetId) (w : ℕ → Bool) → IsChecked n → length edges ≡ length (names n) → AreNets (names n) nets → map (values_of n w edges) (names_at (names n) nets) ≡ bits_of w (map (edge_at edges) nets)
picked_bits n edges nets w checked len within =
    map-map (λ (net : NetId). name_at (names n) net.0) (values_of n w edges) nets
    ∙ map_agree (λ (net : NetId). values_of n w edges (name_at (names n) net.0)) (λ (net : NetId). value_of w (edge_at edges net)) nets (λ k net at.
    let lt : net.0 < length (names n) = All_at (λ (net : NetId). net.0 < length (names n)) nets k net within at in
    let named = slice_get-get_or (names n) net.0 [] lt in
    value_at_name n w edges net.0 (name_at (names n) net.0) (edge_at edges net) checked.distinct len named (slice_get-get_or edges net.0 (plain 0) (place_in_table n edges net.0 (name_at (names n) net.0) len named)))
    ∙ sym (map-map (edge_at edges) (value_of w) nets)

-- they are edges of the graph
pub picked_within : (n : Circuit) (nodes : List Node) (edges : List Edge) (nets : List NetId) → length edges ≡ length (names n) → AreNets (names n) nets → AreEdges nodes edges → AreEdges nodes (map (edge_at edges) nets)
picked_within n nodes edges nets len within are =
    All_from_places (IsEdge nodes) (map (edge_at edges) nets) (λ k e at.
    let found = unmapped (edge_at edges) nets k e at in
    let lt : found.0.0 < length (names n) = All_at (λ (net : NetId). net.0 < length (names n)) nets k found.0 within found.1 in
    subst (IsEdge nodes) found.2 (are found.0.0 (plain 0) (subst (λ (m : ℕ). found.0.0 < m) (sym len) lt)))

valued_at : (n : Circuit) (targets : List (List ℕ)) (nodes : List Node) (nets : List NetId) (inputs opens edges : List Edge) → IsChecked n → AreTargets n targets → HasOpenNets n (length (inputs ++ opens)) → AreEdges nodes inputs → AreEdges nodes opens → AreNets (names n) nets → length edges ≡ length (names n) → AreEdges nodes edges → ((w : ℕ → Bool) → IsValuation nodes w → IsConsistent n (values_of n w edges)) → IsBound n (inputs ++ opens) edges → AreValued n nodes (n.inputs ++ targets ++ names_at (names n) nets) (inputs ++ opens ++ map (edge_at edges) nets)
valued_at n targets nodes nets inputs opens edges checked are counted in_inputs in_opens within len all_edges consistent bound = record {
  within = All-append (IsEdge nodes) (inputs ++ opens) (map (edge_at edges) nets) (All-append (IsEdge nodes) inputs opens in_inputs in_opens) (picked_within n nodes edges nets len within all_edges);
  values = λ w valuation.
      let v = values_of n w edges in
      let picked = map (edge_at edges) nets in
      let count : length (n.inputs ++ targets) ≡ length (inputs ++ opens) = ap (λ list. length (n.inputs ++ list)) (targets_unique n targets counted.0 are counted.1) ∙ counted.2 in (
        v,
        consistent w valuation,
        map-append v (n.inputs ++ targets) (names_at (names n) nets)
            ∙ ap (λ bits. bits ++ map v (names_at (names n) nets)) (bound_bits n targets (inputs ++ opens) edges w checked are count len bound)
            ∙ ap (λ bits. bits_of w (inputs ++ opens) ++ bits) (picked_bits n edges nets w checked len within)
            ∙ sym (map-append (value_of w) (inputs ++ opens) picked),
      );
}

pub valued_are : (n : Circuit) (targets : List (List ℕ)) (nodes : List Node) (nets : List NetId) (inputs opens bind edges picked : List Edge) → bind ≡ inputs ++ opens → picked ≡ map (edge_at edges) nets → IsChecked n → AreTargets n targets → HasOpenNets n (length inputs + length opens) → AreEdges nodes inputs → AreEdges nodes opens → AreNets (names n) nets → length edges ≡ length (names n) → AreEdges nodes edges → ((w : ℕ → Bool) → IsValuation nodes w → IsConsistent n (values_of n w edges)) → IsBound n bind edges → AreValued n nodes (n.inputs ++ targets ++ names_at (names n) nets) (inputs ++ opens ++ picked)
valued_are n targets nodes nets inputs opens bind edges picked joined chosen checked are counted in_inputs in_opens within len all_edges consistent bound =
    subst (λ list. AreValued n nodes (n.inputs ++ targets ++ names_at (names n) nets) (inputs ++ opens ++ list)) (sym chosen)
    (valued_at n targets nodes nets inputs opens edges checked are (subst (HasOpenNets n) (sym (length-append inputs opens)) counted) in_inputs in_opens within len all_edges consistent (subst (λ list. IsBound n list edges) joined bound))
