-- Copies of a netlist over one graph of its targets: what their edges tell, and that they stay where the graph grows.
use Rattle.std.proofs.Common.{◌≡◌, ◌⊎◌, inl, inr, ℕ, ◌+◌, Bool, true, false, not, List, ◌++◌, Some, slice_get, length, map, sym, ◌∙◌, ap, subst, arith}
use Rattle.std.specs.Global.{Vec}
use Rattle.std.specs.List.{All, Contains}
use Rattle.std.proofs.lemmas.Bool.{cases_Bool, not-true}
use Rattle.std.proofs.lemmas.List.{length-map, length-append}
use Rattle.eco_lists.proofs.Places.{map_agree, All_at}
use Rattle.eco_meaning.specs.Circuit.{Circuit, Values, names, AreTargets}
use Rattle.eco_meaning.specs.Meaning.{Goal}
use Rattle.eco_laws.proofs.OneValue.{same_by_image}
use Rattle.eco_laws.proofs.Sources.{by_targets}
use Rattle.eco_netlist.specs.Netlists.{IsChecked}
use Rattle.eco_netlist.proofs.SoundNetlists.{sound_netlist}
use Rattle.eco_aig.specs.declared.edge.Edge.{Edge}
use Rattle.eco_aig.specs.declared.node.Node.{Node}
use Rattle.eco_aig.specs.declared.node.Node.TheVariants.{Zero}
use Rattle.eco_aig.specs.Edges.{complement, value_of, bits_of}
use Rattle.eco_aig.specs.Graph.{IsGraph, IsValuation}
use Rattle.eco_aig.specs.Inputs.{AreInputs}
use Rattle.eco_aig.proofs.Conjunctions.{value_of-complement}
use Rattle.eco_aig.proofs.Growing.{edge_stays, valuation_of_older, grows_join}
use Rattle.eco_aig.proofs.InputEdges.{inputs_stay}
use Rattle.eco_query.specs.Problem.{HasTargets}
use Rattle.eco_compile.specs.Valued.{AreValued}
use Rattle.eco_compile.specs.Wrong.{IsWrongEdge}
use Rattle.eco_compile.proofs.Bits.{split_bits}
use Rattle.eco_pose.specs.Boards.{constant_edge}
use Rattle.eco_pose.proofs.RowLaws.{constant_bits}
use Rattle.eco_clash.specs.Clashes.{IsAt, IsRightAt}
use Rattle.eco_tuples.specs.declared.target_graph.TargetGraph.{TargetGraph}
use Rattle.eco_tuples.specs.Graphs.{IsTargetGraph, Stretches, TellsRight}

-- a graph of targets stays one where it grows
pub stretched : (f : Circuit) (old new : TargetGraph) → IsTargetGraph f old → IsGraph new.graph → Stretches old new → IsTargetGraph f new
stretched f old new is graph stretches = record {
  graph = graph;
  inputs = subst (λ (opens : Vec Edge). AreInputs new.graph opens.items) (sym stretches.opens) (inputs_stay old.graph new.graph stretches.most old.opens.items graph stretches.grows is.inputs);
  count = subst (λ (opens : Vec Edge). HasTargets f (length opens.items)) (sym stretches.opens) is.count;
}

pub stretches_on : (old mid new : TargetGraph) → Stretches old mid → Stretches mid new → Stretches old new
stretches_on old mid new first second = record {
  opens = second.opens ∙ first.opens;
  most = first.most + second.most;
  grows = grows_join old.graph mid.graph new.graph first.most second.most first.grows second.grows;
}

-- the complement of an edge that is 1 where the netlist isn't right tells where it is
pub right_from_wrong : (f : Circuit) (goal : Goal) (targets : List (List ℕ)) (nodes : List Node) (opens : List Edge) (x : List Bool) (e : Edge) →
    slice_get nodes 0 ≡ Some Zero → IsWrongEdge f goal targets nodes (map constant_edge x) opens e → TellsRight f goal targets nodes opens x (complement e)
right_from_wrong f goal targets nodes opens x e first tells = record {
  within = tells.within;
  right = λ w valuation one.
      let (v, has, right) = tells.right w valuation (not-true (value_of w e) (sym (value_of-complement w e) ∙ one)) in
      record {
        values = v;
        at = record { consistent = right.consistent; input = has.input ∙ constant_bits nodes w x first valuation; bits = has.row };
        right = right;
      };
  only = λ w valuation is. value_of-complement w e ∙ ap not (off w valuation is (cases_Bool (value_of w e)));
}
  where
    off : (w : ℕ → Bool) → IsValuation nodes w → IsRightAt f goal targets x (bits_of w opens) → (value_of w e ≡ true) ⊎ (value_of w e ≡ false) → value_of w e ≡ false
    off w valuation is (inl one) = absurd (tells.wrong w valuation one is.values (record { input = is.at.input ∙ sym (constant_bits nodes w x first valuation); row = is.at.bits }) is.right)
    off w valuation is (inr none) = none

-- it tells so in a graph that grew
pub tells_stay : (f : Circuit) (goal : Goal) (targets : List (List ℕ)) (old new : TargetGraph) (x : List Bool) (e : Edge) → Stretches old new →
    TellsRight f goal targets old.graph old.opens.items x e → TellsRight f goal targets new.graph new.opens.items x e
tells_stay f goal targets old new x e stretches tells =
    subst (λ (opens : Vec Edge). TellsRight f goal targets new.graph opens.items x e) (sym stretches.opens) (record {
      within = edge_stays old.graph new.graph stretches.most e stretches.grows tells.within;
      right = λ w valuation. tells.right w (valuation_of_older old.graph new.graph stretches.most w stretches.grows valuation);
      only = λ w valuation. tells.only w (valuation_of_older old.graph new.graph stretches.most w stretches.grows valuation);
    })

-- nets have the bits of their edges in each map with the same input and the same bits of the targets
pub values_at : (f : Circuit) (targets nets : List (List ℕ)) (nodes : List Node) (opens edges : List Edge) (x : List Bool) →
    IsChecked f → slice_get nodes 0 ≡ Some Zero → AreTargets f targets → length opens ≡ length targets → length x ≡ length f.inputs → All (Contains (names f)) nets →
    AreValued f nodes (f.inputs ++ targets ++ nets) (map constant_edge x ++ opens ++ edges) →
    (w : ℕ → Bool) → IsValuation nodes w → (v : Values) → IsAt f targets x (bits_of w opens) v → map v nets ≡ bits_of w edges
values_at f targets nets nodes opens edges x checked first are count len within valued w valuation v at =
    let (u, consistent, bits) = valued.values w valuation in
    let inputs_long : length (map constant_edge x) ≡ length f.inputs = length-map x constant_edge ∙ len in
    let (front, last) = split_bits u w (f.inputs ++ targets) nets (map constant_edge x ++ opens) edges (omega (arith, length-append (map constant_edge x) opens, length-append f.inputs targets, inputs_long, count)) bits in
    let (input, row) = split_bits u w f.inputs targets (map constant_edge x) opens inputs_long front in
    let same_inputs = same_by_image v u f.inputs (at.input ∙ sym (input ∙ constant_bits nodes w x first valuation)) in
    let same_targets = same_by_image v u targets (at.bits ∙ sym row) in
    map_agree v u nets (λ k name place.
    by_targets f v u targets (sound_netlist f checked) at.consistent consistent same_inputs same_targets name (All_at (Contains (names f)) nets k name within place) (λ target is fan. are.complete target is))
    ∙ last
