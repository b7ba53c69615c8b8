use Rattle.std.proofs.Common.{◌≡◌, Bool, not, ◌&&◌, ◌||◌, false, [], ◌++◌, cond, get_or, map, sym, ◌∙◌, ap, append_assoc}
use Rattle.std.specs.List.{list_any}
use Rattle.eco_aig.specs.declared.edge.Edge.{Edge}
use Rattle.eco_aig.specs.Edges.{plain}
use Rattle.eco_aig.specs.Graph.{pair_at, inputs_of}
use Rattle.eco_aig.specs.Reached.{operands_at}
use Rattle.eco_splice.specs.Wired.{gates_below, is_complement_of, is_inverted, wired_below}
use Rattle.eco_splice.specs.Marking.{edges_with}
use Rattle.eco_splice.proofs.WiredLemmas.{is_new, wired_more, inverted_more, gate_reads, gate_edges}
use Rattle.eco_splice.proofs.wiring.netted_edges.Goals as goal

pub loop-node-preserved : goal.loop-node-preserved
loop-node-preserved c =
    let nodes = c.args.aig.now in
    let marks = c.args.marks.now in
    let k = c.loop-node.node in
    let marked = get_or marks k false in
    let pair = pair_at nodes k in
    let old = c.loop-node.inverted.items in
    let before = wired_below nodes marks k in
    let test : Edge → Bool = λ e. e.complemented && not (get_or old e.node false) in
    let same : (e : Edge) → test e ≡ is_new nodes marks k e = λ e. ap (λ b. e.complemented && not b) (c.loop-node.invariant.inverted e.node) in
    let added = gate_edges marked pair test (is_new nodes marks k) (plain k) same in
    record {
      count = c.in_ok-add_marked.ensures.length ∙ c.loop-node.invariant.count;
      inverted = λ node.
          c.in_ok-add_marked.ensures.inverted node
          ∙ ap (λ b. b || cond marked (list_any (is_complement_of node) (operands_at nodes k)) false) (c.loop-node.invariant.inverted node)
          ∙ ap (λ b. is_inverted nodes (gates_below nodes marks k) node || b) (gate_reads marked pair (is_complement_of node))
          ∙ sym (inverted_more nodes marks k node);
      edges =
          c.in_ok-add_marked.ensures.edges
          ∙ ap (λ l. l ++ cond marked (edges_with nodes k old) []) c.loop-node.invariant.edges
          ∙ append_assoc (map plain (inputs_of nodes)) before (cond marked (edges_with nodes k old) [])
          ∙ ap (λ l. map plain (inputs_of nodes) ++ (before ++ l)) added
          ∙ ap (λ l. map plain (inputs_of nodes) ++ l) (sym (wired_more nodes marks k));
    }
