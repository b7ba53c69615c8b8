-- One input more, and all of them.
use Rattle.std.proofs.Common.{◌≡◌, suc, ◌+◌, take, get_or, sym, ◌∙◌, subst, arith}
use Rattle.std.proofs.lemmas.Option.{slice_get-get_or}
use Rattle.std.proofs.lemmas.List.{take_all}
use Rattle.eco_tuples.specs.Graphs.{IsRightEdge, AreRightEdges}
use Rattle.eco_tuples.proofs.SideLaws.{right_edges_more}
use Rattle.eco_tuples.proofs.posing.right_edges.Goals as goal

pub loop-input-preserved : goal.loop-input-preserved
loop-input-preserved c =
    let problem = c.args.problem.now in
    let tuple = c.args.tuple.now in
    let k = c.loop-input.input-index in
    let x = get_or tuple k c.input-item.result in
    let old = c.loop-input.targets in
    let new = c.right_edge.new.targets in
    let e = c.in_ok-right_edge.field-0 in
    let next : suc k ≡ k + 1 = omega arith in
    let is = subst (λ bits. IsRightEdge problem new bits e) (c.as_slice.ensures ∙ c.input-item.is) c.in_ok-right_edge.ensures.edge in
    let more = right_edges_more problem old new tuple k x c.loop-input.edges.items e c.loop-input.invariant.0 c.in_ok-right_edge.ensures.stretches (slice_get-get_or tuple k c.input-item.result (omega arith)) is in (
      subst (λ m. AreRightEdges problem new (take m tuple) c.push.new.self.items) next (subst (AreRightEdges problem new (take (suc k) tuple)) (sym c.in_ok-push.ensures.items) more),
      c.in_ok-right_edge.ensures.targets,
    )

pub returns-clause-edges : goal.returns-clause-edges
returns-clause-edges c =
    subst (λ tuple. AreRightEdges c.args.problem.now c.loop-input.targets tuple c.loop-input.edges.items) (take_all c.loop-input.input-index c.args.tuple.now (omega arith)) c.loop-input.invariant.0
