-- The nets' edges have their values.
use Rattle.std.proofs.Common.{◌≡◌, ℕ, List, ◌++◌, get_or, map, sym, ◌∙◌, ap, subst}
use Rattle.std.proofs.lemmas.Result.{IfOk-weaker}
use Rattle.eco_meaning.specs.Circuit.{names, AreTargets}
use Rattle.eco_gates.specs.declared.gate.NetId.{NetId}
use Rattle.eco_netlist.specs.Netlists.{names_at}
use Rattle.eco_aig.specs.declared.edge.Edge.{Edge}
use Rattle.eco_aig.specs.Edges.{plain}
use Rattle.eco_compile.specs.Compiled.{AreEdges, needed_nodes}
use Rattle.eco_aig.proofs.Growing.{edges_stay}
use Rattle.eco_compile.specs.Valued.{AreValued}
use Rattle.eco_compile.proofs.Valuing.{edge_at, picked_within, valued_are}
use Rattle.eco_compile.proofs.valued.valued_edges.Goals as goal

pub returns-clause-edges : goal.returns-clause-edges
returns-clause-edges c =
    let n = c.args.netlist.now in
    let nodes = c.compile.new.aig in
    let nets = c.args.nets.now in
    let edges = c.in_ok-edges.edges.items in
    let same : c.as_slice-2.result.now ≡ edges = c.as_slice-2.ensures.value in
    IfOk-weaker c.picked_edges.result (λ picked. picked.items ≡ map (λ (net : NetId). get_or c.as_slice-2.result.now net.0 (plain 0)) nets) (λ picked. AreEdges nodes picked.items) (λ picked is.
    subst (AreEdges nodes) (sym (is ∙ ap (λ (list : List Edge). map (edge_at list) nets) same)) (picked_within n nodes edges nets c.in_ok-edges.ensures.length c.requires.nets c.in_ok-edges.ensures.edges)) c.picked_edges.ensures

pub returns-clause-values : goal.returns-clause-values
returns-clause-values c =
    let n = c.args.netlist.now in
    let nodes = c.compile.new.aig in
    let nets = c.args.nets.now in
    let inputs = c.args.inputs.now in
    let opens = c.args.opens.now in
    let edges = c.in_ok-edges.edges.items in
    let bind : c.as_slice.result.now ≡ inputs ++ opens = c.as_slice.ensures.value ∙ c.in_ok-extend_from_slice.ensures.items ∙ ap (λ list. list ++ opens) c.in_ok-bind.ensures.items in
    let same : c.as_slice-2.result.now ≡ edges = c.as_slice-2.ensures.value in
    IfOk-weaker c.picked_edges.result (λ picked. picked.items ≡ map (λ (net : NetId). get_or c.as_slice-2.result.now net.0 (plain 0)) nets) (λ picked. (targets : List (List ℕ)) → AreTargets n targets → AreValued n nodes (n.inputs ++ targets ++ names_at (names n) nets) (inputs ++ opens ++ picked.items)) (λ picked is targets are.
    valued_are n targets nodes nets inputs opens c.as_slice.result.now edges picked.items bind (is ∙ ap (λ (list : List Edge). map (edge_at list) nets) same) c.nets.ensures.checked are c.requires.open_count (edges_stay c.args.aig.now nodes (needed_nodes n) inputs c.in_ok-edges.ensures.grows c.requires.input_edges) (edges_stay c.args.aig.now nodes (needed_nodes n) opens c.in_ok-edges.ensures.grows c.requires.open_edges) c.requires.nets c.in_ok-edges.ensures.length c.in_ok-edges.ensures.edges c.in_ok-edges.ensures.consistent c.in_ok-edges.ensures.bound) c.picked_edges.ensures
