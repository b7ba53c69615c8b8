-- No edge, one more, and all of them.
use Rattle.std.proofs.Common.{◌+◌, ◌-◌, false, length, get_or, sym, subst, arith}
use Rattle.std.specs.List.{All, Contains}
use Rattle.std.proofs.lemmas.Option.{slice_get-get_or}
use Rattle.eco_aig.specs.declared.edge.Edge.{Edge}
use Rattle.eco_aig.proofs.Growing.{grows_join, grows_more}
use Rattle.eco_aig.specs.Graph.{IsEdge}
use Rattle.eco_merge.specs.declared.loose.Loose.{Loose}
use Rattle.eco_merge.specs.Counting.{IsAboutReached}
use Rattle.eco_merge.specs.Steps.{undone}
use Rattle.eco_merge.proofs.Sweeping.{sweeping_start, sweeping_next, swept_values, swept_gates, swept_items, swept_edges, swept_entries, swept_unlike}
use Rattle.eco_merge.proofs.Telling.{unlike_told}
use Rattle.eco_merge.proofs.edges.sweep.Goals as goal

pub loop-root-init : goal.loop-root-init
loop-root-init g c =
    let merging = c.in_ok-merging.ensures in
    sweeping_start c.args.aig.now c.args.roots.now c.args.limit c.in_ok-merging.merging c.in_ok-swept.swept.items c.nodes.ensures.graph (merging.ready c.args.limit) merging.merged merging.undone c.in_ok-swept.ensures.items

pub returns-in_err-edge-clause-grows : goal.returns-in_err-edge-clause-grows
returns-in_err-edge-clause-grows g c =
    let old = c.args.aig.now in
    let before = undone c.loop-root.merging.images.items in
    let fewer = c.loop-root.invariant.fewer in
    grows_more old c.reduce.new.aig ((length old - before) + before) (length old) (omega (arith, fewer)) (grows_join old c.loop-root.aig c.reduce.new.aig (length old - before) before c.loop-root.invariant.grows c.reduce.ensures.grows)

pub returns-in_err-push-clause-grows : goal.returns-in_err-push-clause-grows
returns-in_err-push-clause-grows g c =
    let old = c.args.aig.now in
    let before = undone c.loop-root.merging.images.items in
    let after = undone c.reduce.new.self.images.items in
    let fewer_before = c.loop-root.invariant.fewer in
    let fewer = c.in_ok-edge.ensures.fewer in
    grows_more old c.reduce.new.aig ((length old - before) + (before - after)) (length old) (omega (arith, fewer, fewer_before)) (grows_join old c.loop-root.aig c.reduce.new.aig (length old - before) (before - after) c.loop-root.invariant.grows c.in_ok-edge.ensures.few)

pub loop-root-preserved : goal.loop-root-preserved
loop-root-preserved g c =
    let roots = c.args.roots.now in
    let i = c.loop-root.root-index in
    let none : Edge = record { node = 0; complemented = false } in
    sweeping_next c.args.aig.now roots c.args.limit i c.loop-root.aig c.reduce.new.aig c.loop-root.merging c.reduce.new.self c.loop-root.swept.items c.push.new.self.items (get_or roots i none) c.in_ok-edge.edge (slice_get-get_or roots i none c.loop-root-test.true) c.nodes-in-loop-root.ensures.graph c.in_ok-edge.ensures.ready c.in_ok-edge.ensures.image c.in_ok-edge.ensures.stay c.in_ok-edge.ensures.few c.in_ok-edge.ensures.fewer c.in_ok-edge.ensures.merged c.in_ok-push.ensures.items c.loop-root.invariant

pub returns-clause-values : goal.returns-clause-values
returns-clause-values g c =
    swept_values c.args.aig.now c.args.roots.now c.args.limit c.loop-root.root-index c.loop-root.aig c.loop-root.merging c.loop-root.swept.items c.loop-root-test.false c.loop-root.invariant

pub returns-clause-gates : goal.returns-clause-gates
returns-clause-gates g c =
    swept_gates c.args.aig.now c.args.roots.now c.args.limit c.loop-root.root-index c.loop-root.aig c.loop-root.merging c.loop-root.swept.items c.loop-root-test.false c.loop-root.invariant

pub returns-clause-items : goal.returns-clause-items
returns-clause-items g c =
    swept_items c.args.aig.now c.args.roots.now c.args.limit c.loop-root.root-index c.loop-root.aig c.loop-root.merging c.loop-root.swept.items c.loop-root-test.false c.loop-root.invariant

pub keep_reached-requires : goal.keep_reached-requires
keep_reached-requires g c = record {
  roots = subst (All (IsEdge c.loop-root.aig)) (sym c.as_slice.ensures.value)
      (swept_edges c.args.aig.now c.args.roots.now c.args.limit c.loop-root.root-index c.loop-root.aig c.loop-root.merging c.loop-root.swept.items c.loop-root-test.false c.loop-root.invariant);
}

pub returns-clause-entries : goal.returns-clause-entries
returns-clause-entries g c =
    swept_entries c.args.aig.now c.args.roots.now c.args.limit c.loop-root.root-index c.loop-root.aig c.loop-root.merging c.loop-root.swept.items c.loop-root-test.false c.loop-root.invariant c.keep_reached.new.entries.items c.in_ok-keep_reached.ensures.older

pub returns-clause-about : goal.returns-clause-about
returns-clause-about g c =
    let entries = c.keep_reached.new.entries.items in
    subst (λ edges. All (IsAboutReached c.loop-root.aig edges) entries) c.as_slice.ensures.value c.in_ok-keep_reached.ensures.about

pub returns-clause-unlike : goal.returns-clause-unlike
returns-clause-unlike g c =
    let nodes = c.loop-root.aig in
    let apart = c.loop-root.merging.findings.apart.items in
    let entries = c.keep_reached.new.entries.items in
    unlike_told nodes c.loop-root.swept.items apart entries
    (subst (λ edges. (entry : Loose) → Contains apart entry → IsAboutReached nodes edges entry → Contains entries entry) c.as_slice.ensures.value c.in_ok-keep_reached.ensures.kept)
    (swept_unlike c.args.aig.now c.args.roots.now c.args.limit c.loop-root.root-index nodes c.loop-root.merging c.loop-root.swept.items c.loop-root-test.false c.loop-root.invariant)
