use Rattle.std.proofs.Common.{◌≤◌, length, rules, sym, ◌∙◌, ap, subst, arith}
use Rattle.std.specs.Prelude.{replicate}
use Rattle.eco_aig.specs.Edges.{plain}
use Rattle.eco_functions.proofs.GraftLemmas.{AreLeaves, leaves_none, leaves_next, leaves_all, source_below}
use Rattle.eco_functions.proofs.grafting.leaf_images.Goals as goal

pub loop-place-init : goal.loop-place-init
loop-place-init c =
    let none = c.in_ok-images.ensures.items_if_clones_equal (search rules) ∙ ap (λ n. replicate n (plain 0)) c.nodes-nodes.ensures.count in
    subst (AreLeaves c.args.into.now c.args.from.now 0) (sym none) (leaves_none c.args.into.now c.args.from.now c.nodes.ensures.graph c.nodes-nodes.ensures.graph)

pub index_mut-requires : goal.index_mut-requires
index_mut-requires c =
    let below = source_below c.args.from.now c.inputs-sources.result.now c.loop-place.place c.nodes-nodes.ensures.graph c.inputs-sources.ensures c.loop-place-test.true in
    omega (arith, below, c.loop-place.invariant.count, c.loop-place.images.ok.0)

pub loop-place-preserved : goal.loop-place-preserved
loop-place-preserved c =
    leaves_next c.args.into.now c.args.from.now c.inputs-sources.result.now c.inputs-inputs.result.now c.loop-place.place c.loop-place.images.items c.nodes.ensures.graph c.nodes-nodes.ensures.graph c.inputs-sources.ensures c.inputs-inputs.ensures c.requires.inputs c.loop-place-test.true c.loop-place.invariant

pub returns : goal.returns
returns c =
    leaves_all c.args.into.now c.args.from.now c.loop-place.place c.loop-place.images.items c.nodes-nodes.ensures.graph (subst (λ list. length list ≤ c.loop-place.place) c.inputs-sources.ensures c.loop-place-test.false) c.loop-place.invariant
