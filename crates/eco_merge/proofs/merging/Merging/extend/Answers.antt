-- The rows grow with the graph, or it stays.
use Rattle.std.proofs.Common.{◌≡◌, ◌+◌, ◌<◌, ◌≤◌, Ok, List, length, refl, subst, sym, arith}
use Rattle.eco_aig.specs.declared.node.Node.{Node}
use Rattle.eco_merge.specs.Rows.{grown}
use Rattle.eco_merge.specs.Steps.{IsReady}
use Rattle.eco_merge.proofs.Staying.{longer_by_one, row_grows}
use Rattle.eco_merge.proofs.Signing.{signed_grows}
use Rattle.eco_merge.proofs.Keeping.{ready_grows, rows_grow, taken_node, none_taken}
use Rattle.eco_merge.proofs.merging.Merging.extend.Goals as goal

pub returns-in_ok-grow-clause-ready : goal.returns-in_ok-grow-clause-ready
returns-in_ok-grow-clause-ready c = λ limit ready.
    let old = c.args.aig.now in
    let new = c.and.new.self in
    let a = c.args.first in
    let b = c.args.second in
    let e = c.in_ok-edge.edge in
    let graph = c.nodes-nodes.ensures.graph in
    let more : length old < length new = omega (arith, c.if-nodes.true, c.nodes.ensures.count, c.nodes-nodes.ensures.count) in
    let node = taken_node old new a b e (λ x. c.and.result ≡ Ok x) c.and.ensures.simple c.in_ok-edge.ensures.node more in
    let rows = rows_grow old new (grown a b) c.args.self.now.findings.rows.items c.grow.new.self.rows.items c.in_ok-grow.ensures.rows (λ row. row_grows old new a b e row graph c.in_ok-edge.ensures.grows more node (c.in_ok-edge.ensures.own more) c.requires.first c.requires.second) ready.findings.rows in
    let ensures = c.in_ok-grow.ensures in
    let long : length new ≡ length old + 1 = longer_by_one old new c.in_ok-edge.ensures.grows more in
    let before = c.args.self.now.findings in
    let after = c.grow.new.self in
    let signed = signed_grows old new a b before.rows.items after.rows.items before.drawn after.drawn before.signatures.items after.signatures.items long ready.findings.rows ensures.rows ensures.drawn ensures.signatures ready.findings.signed in
    ready_grows old new limit 1 c.args.self.now _ c.in_ok-edge.ensures.grows graph c.nodes.ensures.graph refl refl ensures.apart rows signed ready

pub returns-else-nodes-clause-ready : goal.returns-else-nodes-clause-ready
returns-else-nodes-clause-ready c = λ limit ready.
    let old = c.args.aig.now in
    let new = c.and.new.self in
    let le : length new ≤ length old = omega (arith, c.if-nodes.false, c.nodes.ensures.count, c.nodes-nodes.ensures.count) in
    subst (λ (list : List Node). IsReady list limit c.args.self.now) (sym (none_taken old new 1 c.in_ok-edge.ensures.grows le)) ready
