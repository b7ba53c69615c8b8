use Rattle.std.proofs.Common.{◌-◌, length, sym, ◌∙◌, ap, subst, arith}
use Rattle.std.proofs.lemmas.List.{length-map}
use Rattle.eco_meaning.specs.Circuit.{names}
use Rattle.eco_netlist.specs.Netlists.{name_at, names_at}
use Rattle.eco_splice.specs.Wired.{wired}
use Rattle.eco_splice.proofs.GraphNets.{IsOnce}
use Rattle.eco_splice.proofs.OrderedEdges.{netted_laid_out, netted_edges}
use Rattle.eco_splice.proofs.GraphPatches.{length-netted, length-nets}
use Rattle.eco_splice.proofs.graph.marked_nets.Goals as goal

pub new-requires-clause-edges : goal.new-requires-clause-edges
new-requires-clause-edges c =
    rw (c.in_ok-edges.ensures, c.nodes-nodes.ensures.count) (netted_edges c.args.roots.now.aig.now c.args.marks.now c.nodes-nodes.ensures.graph)

pub new-requires-clause-once : goal.new-requires-clause-once
new-requires-clause-once c =
    subst IsOnce (sym c.in_ok-edges.ensures) (netted_laid_out c.args.roots.now.aig.now c.requires.marks.0 c.args.marks.now c.nodes-nodes.ensures.graph c.requires.marks.1).once

pub new-requires-clause-names : goal.new-requires-clause-names
new-requires-clause-names c =
    let base = names_at (names c.args.frame.now.f.now) c.args.roots.now.base.now in
    let edges = ap length c.in_ok-edges.ensures ∙ length-netted c.args.roots.now.aig.now (wired c.args.roots.now.aig.now c.args.marks.now) in
    let list = ap length c.in_ok-names.ensures in
    let nets = length-nets c.args.frame.now.prefix.now base (c.len.result - length c.args.roots.now.base.now) in
    let count = length-map c.args.roots.now.base.now (λ net. name_at (names c.args.frame.now.f.now) net.0) in
    let inputs = c.requires.inputs in
    omega (arith, edges, list, nets, count, inputs)
