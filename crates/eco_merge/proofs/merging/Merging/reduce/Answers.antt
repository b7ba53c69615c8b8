-- No node visited, one more, and all of them.
use Rattle.std.proofs.Common.{◌≡◌, ◌<◌, [], ◌∷◌, ◌++◌, false, length, get_or, sym, ◌∙◌, subst, arith}
use Rattle.std.proofs.lemmas.Bool.{true≢false}
use Rattle.std.proofs.lemmas.List.{get_or_read}
use Rattle.eco_lists.proofs.Members.{Contains_first, only_one}
use Rattle.eco_lists.proofs.Places.{All_from_places, Contains_at}
use Rattle.eco_aig.specs.declared.edge.Edge.{Edge}
use Rattle.eco_aig.specs.Graph.{IsEdge}
use Rattle.eco_trace.specs.Core.{IsSet}
use Rattle.eco_aig.proofs.Reaching.{at_root}
use Rattle.eco_merge.proofs.Reducing.{none_visited, one_visited, not_visited, operands_visited, last_reached, merged_more}
use Rattle.eco_merge.proofs.merging.Merging.reduce.Goals as goal
use Rattle.eco_merge.proofs.merging.Merging.reduce.Goals.{then-index+in_ok-visit, else-index}

pub reached-requires : goal.reached-requires
reached-requires g c =
    let graph = c.args.aig.now in
    let e = c.args.edge in
    let few = c.requires.ready.few in
    let edge_in = c.requires.edge in
    let within : e.node < length graph = omega (arith, few, edge_in) in
    All_from_places (IsEdge graph) (e ∷ []) (λ k x at. subst (λ (y : Edge). y.node < length graph) (only_one e x (Contains_at (e ∷ []) k x at)) within)

pub loop-node-init : goal.loop-node-init
loop-node-init g c = record {
  ready = c.requires.ready;
  visited = none_visited c.args.aig.now c.args.self.now.images.items c.in_ok-marks.marks.items;
  merged = λ old roots is. merged_more old roots c.args.aig.now c.args.self.now c.args.edge is;
}

pub visit-requires-clause-operands : goal.visit-requires-clause-operands
visit-requires-clause-operands g c =
    let graph = c.args.aig.now in
    let e = c.args.edge in
    let n = c.loop-node.node in
    let marks = c.in_ok-marks.marks.items in
    let few = c.requires.ready.few in
    let test = c.loop-node-test.true in
    let within : n < length graph = omega (arith, few, test, c.len-node-end.ensures) in
    let room : n < length marks = omega (arith, within, c.in_ok-marks.ensures.len) in
    let marked : IsSet marks n = sym (get_or_read marks n c.index.result.now room c.index.ensures false) ∙ c.if-index.true in
    operands_visited graph c.loop-node.aig e c.args.self.now.images.items c.loop-node.self.images.items marks n c.nodes.ensures.graph c.in_ok-marks.ensures.complete (c.in_ok-marks.ensures.sound n marked) within c.loop-node.invariant.visited

pub loop-node-preserved : goal.loop-node-preserved
loop-node-preserved g c =
    let graph = c.args.aig.now in
    let e = c.args.edge in
    let n = c.loop-node.node in
    let images = c.args.self.now.images.items in
    let now = c.loop-node.self.images.items in
    let marks = c.in_ok-marks.marks.items in
    let few = c.requires.ready.few in
    let test = c.loop-node-test.true in
    let within : n < length graph = omega (arith, few, test, c.len-node-end.ensures) in
    let room : n < length marks = omega (arith, within, c.in_ok-marks.ensures.len) in
    let read : get_or marks n false ≡ c.index.result.now = sym (get_or_read marks n c.index.result.now room c.index.ensures false) in
    let edge_in = c.requires.edge in
    elim c.if-index.branch [
      | then-index+in_ok-visit w ↦ rw (w.self-is, w.aig-is) (record {
        ready = w.in_ok-visit.ensures.ready;
        visited = one_visited graph c.loop-node.aig w.visit.new.aig images now w.visit.new.self.images.items marks n c.loop-node.invariant.visited w.in_ok-visit.ensures.images;
        merged = λ old roots is.
            let root_in : e.node < length old = omega (arith, edge_in, is.count) in
            w.in_ok-visit.ensures.merged old (roots ++ e ∷ []) (c.loop-node.invariant.merged old roots is) (last_reached old graph roots e n is.graph is.grown root_in (c.in_ok-marks.ensures.sound n (read ∙ w.if-index.true)));
      })
      | else-index w ↦ rw (w.self-is, w.aig-is) (record {
        ready = c.loop-node.invariant.ready;
        visited = not_visited graph c.loop-node.aig images now marks n (λ is. true≢false (sym is ∙ read ∙ w.if-index.false)) c.loop-node.invariant.visited;
        merged = c.loop-node.invariant.merged;
      })
    ]

pub image-requires : goal.image-requires
image-requires g c =
    let e = c.args.edge in
    let edge_in = c.requires.edge in
    let end = c.loop-node-test.false in
    let within : e.node < c.loop-node.node = omega (arith, edge_in, end, c.len-node-end.ensures) in
    c.loop-node.invariant.visited.images e.node within (c.in_ok-marks.ensures.complete e.node (at_root c.args.aig.now (e ∷ []) e (Contains_first e [])))
