-- Signals that have one edge at all inputs of a tuple are steady over it.
use Rattle.std.proofs.Common.{◌≡◌, inl, inr, ℕ, suc, ◌<◌, Bool, true, false, List, [], ◌∷◌, Some, option_map, slice_get, length, take, sym, ◌∙◌, ap, subst, arith}
use Rattle.std.specs.List.{Contains}
use Rattle.std.specs.Global.{Vec}
use Rattle.std.proofs.lemmas.Bool.{cases_Bool}
use Rattle.std.proofs.lemmas.List.{length-map}
use Rattle.std.proofs.lemmas.List.Elements.{Contains-append_cases}
use Rattle.std.proofs.lemmas.Option.{slice_get-map, slice_get_within, same_Some}
use Rattle.eco_lists.proofs.Members.{Contains_cases, Contains_none, only_one}
use Rattle.eco_lists.proofs.Places.{item_at, take_at_more}
use Rattle.eco_meaning.specs.Circuit.{Circuit}
use Rattle.eco_netlist.proofs.MisfitLemmas.{targets_unique}
use Rattle.eco_aig.specs.declared.edge.Edge.{Edge}
use Rattle.eco_aig.specs.Edges.{value_of, bits_of}
use Rattle.eco_aig.proofs.Growing.{valuation_of_older}
use Rattle.eco_floor.specs.Rows.{IsSetOf}
use Rattle.eco_clash.specs.Clashes.{IsAt}
use Rattle.eco_tuples.specs.declared.target_graph.TargetGraph.{TargetGraph}
use Rattle.eco_tuples.specs.Graphs.{IsTargetGraph, Stretches, AreValuesAt}
use Rattle.eco_tuples.specs.Rows.{IsSteadyBeside, AreSteadyUnless, HasEdgeAt, AreSharedUnless}

-- a net has its edge in a graph that grew
edge_at_stays : (f : Circuit) (old new : TargetGraph) (x : List Bool) (name : List ℕ) (e : Edge) → Stretches old new → HasEdgeAt f old x name e → HasEdgeAt f new x name e
edge_at_stays f old new x name e stretches has targets are w valuation v at =
    has targets are w (valuation_of_older old.graph new.graph stretches.most w stretches.grows valuation) v
    (subst (λ (opens : Vec Edge). IsAt f targets x (bits_of w opens.items) v) stretches.opens at)

-- each of the nets has its edge
edge_of : (f : Circuit) (nets : List (List ℕ)) (graph : TargetGraph) (x : List Bool) (edges : List Edge) → AreValuesAt f nets graph x edges →
    (k : ℕ) (name : List ℕ) (e : Edge) → slice_get nets k ≡ Some name → slice_get edges k ≡ Some e → HasEdgeAt f graph x name e
edge_of f nets graph x edges values k name e at at_edge targets are w valuation v v_at =
    same_Some (v name) (value_of w e)
    (sym (slice_get-map v nets k ∙ ap (option_map v) at) ∙ ap (λ bits. slice_get bits k) (values targets are w valuation v v_at) ∙ slice_get-map (value_of w) edges k ∙ ap (option_map (value_of w)) at_edge)

-- no input so far
pub shared_none : (f : Circuit) (signals : List (List ℕ)) (graph : TargetGraph) (edges : List Edge) (marks : List Bool) → AreSharedUnless f signals graph [] edges marks
shared_none f signals graph edges marks k name e at at_edge unmarked x c = absurd (Contains_none x c)

-- one more
pub shared_more : (f : Circuit) (signals : List (List ℕ)) (old new : TargetGraph) (tuple : List (List Bool)) (k : ℕ) (x : List Bool) (edges others : List Edge) (marks more : List Bool) →
    AreSharedUnless f signals old (take k tuple) edges marks → Stretches old new → slice_get tuple k ≡ Some x → AreValuesAt f signals new x others →
    ((j : ℕ) → slice_get more j ≡ Some false → (slice_get marks j ≡ Some false) × (slice_get edges j ≡ slice_get others j)) →
    AreSharedUnless f signals new (take (suc k) tuple) edges more
shared_more f signals old new tuple k x edges others marks more before stretches at values unlike j name e at_name at_edge unmarked y c =
    let (still, same) = unlike j unmarked in
    elim (Contains-append_cases (take k tuple) (x ∷ []) y (subst (λ list. Contains list y) (take_at_more tuple k x at) c)) [
      | inl front ↦ edge_at_stays f old new y name e stretches (before j name e at_name at_edge still y front)
      | inr last ↦ subst (λ z. HasEdgeAt f new z name e) (only_one x y last) (edge_of f signals new x others values j name e at_name (sym same ∙ at_edge))
    ]

-- the edges are those at the first input
pub shared_first : (f : Circuit) (signals : List (List ℕ)) (old new : TargetGraph) (first : List Bool) (rest : List (List Bool)) (edges : List Edge) (marks : List Bool) →
    Stretches old new → AreValuesAt f signals old first edges → AreSharedUnless f signals new rest edges marks → AreSharedUnless f signals new (first ∷ rest) edges marks
shared_first f signals old new first rest edges marks stretches values shared k name e at at_edge unmarked x c =
    elim (Contains_cases first x rest c) [
      | inl here ↦ subst (λ y. HasEdgeAt f new y name e) here (edge_at_stays f old new first name e stretches (edge_of f signals old first edges values k name e at at_edge))
      | inr later ↦ shared k name e at at_edge unmarked x later
    ]

-- no signal varies over no input
pub steady_none : (f : Circuit) (signals : List (List ℕ)) (marks : List Bool) → AreSteadyUnless f signals [] marks
steady_none f signals marks targets are k name at unmarked x y row v u in_x in_y at_x at_y = absurd (Contains_none x in_x)

-- what has one edge is steady
pub steady_by_edges : (f : Circuit) (signals : List (List ℕ)) (graph : TargetGraph) (tuple : List (List Bool)) (edges : List Edge) (marks : List Bool) →
    IsTargetGraph f graph → length edges ≡ length signals → AreSharedUnless f signals graph tuple edges marks → AreSteadyUnless f signals tuple marks
steady_by_edges f signals graph tuple edges marks is long shared targets are k name at unmarked x y row v u in_x in_y at_x at_y =
    let (counted, are_counted, count) = is.count in
    let opens : length targets ≡ length graph.opens.items = ap length (targets_unique f targets counted are are_counted) ∙ count in
    let (w, valuation, bits) = is.inputs.free row (sym (ap length at_x.bits) ∙ length-map targets v ∙ opens) in
    let inside : k < length signals = slice_get_within signals k name at in
    let (e, at_edge) = item_at edges k (omega (arith, inside, long)) in
    let has : (z : List Bool) → Contains tuple z → HasEdgeAt f graph z name e = shared k name e at at_edge unmarked in
    has x in_x targets are w valuation v (subst (λ r. IsAt f targets x r v) (sym bits) at_x)
    ∙ sym (has y in_y targets are w valuation u (subst (λ r. IsAt f targets y r u) (sym bits) at_y))

-- the row of the marks has the places of all signals that may vary
pub steady_beside : (f : Circuit) (signals : List (List ℕ)) (tuple : List (List Bool)) (marks : List Bool) (row : List ℕ) →
    length marks ≡ length signals → AreSteadyUnless f signals tuple marks → IsSetOf (λ column. slice_get marks column ≡ Some true) row → IsSteadyBeside f signals tuple row
steady_beside f signals tuple marks row long steady set targets are k name at absent =
    let inside : k < length signals = slice_get_within signals k name at in
    let (mark, at_mark) = item_at marks k (omega (arith, inside, long)) in
    elim (cases_Bool mark) [
      | inl marked ↦ absurd (absent (set.all k (at_mark ∙ ap Some marked)))
      | inr unmarked ↦ steady targets are k name at (at_mark ∙ ap Some unmarked)
    ]
