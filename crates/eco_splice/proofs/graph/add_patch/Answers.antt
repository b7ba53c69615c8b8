use Rattle.std.proofs.Common.{◌≡◌, ◌-◌, length, refl, sym, ◌∙◌, ap, subst, arith}
use Rattle.std.specs.List.{All}
use Rattle.eco_splice.specs.Wired.{wired}
use Rattle.eco_splice.specs.Marking.{HasGate, HasNode}
use Rattle.eco_splice.proofs.GraphPatches.{length-netted, wired_part, have_gates, have_nodes}
use Rattle.eco_splice.proofs.graph.add_patch.Goals as goal

pub marked_nets-requires-clause-marks : goal.marked_nets-requires-clause-marks
marked_nets-requires-clause-marks c = (c.args.roots.now.edges.now, c.requires.marks)

pub add_edge_gates-requires-clause-gates : goal.add_edge_gates-requires-clause-gates
add_edge_gates-requires-clause-gates c =
    let nodes = c.args.roots.now.aig.now in
    let edges = wired nodes c.args.marks.now in
    let part = wired_part nodes edges c.deref.result.now (length c.args.roots.now.base.now) (c.deref.ensures.value ∙ c.in_ok-nets.ensures.edges) c.requires.inputs in
    subst (λ l. All (HasGate nodes c.in_ok-nets.nets.edges.items) l) (sym part)
    (subst (λ all. All (HasGate nodes all) edges) (sym c.in_ok-nets.ensures.edges) (have_gates nodes c.args.roots.now.edges.now c.args.marks.now c.nodes.ensures.graph c.requires.marks))

pub add_root_gates-requires-clause-roots : goal.add_root_gates-requires-clause-roots
add_root_gates-requires-clause-roots c =
    let nodes = c.args.roots.now.aig.now in
    subst (λ all. All (HasNode all) c.args.roots.now.edges.now) (sym c.in_ok-nets.ensures.edges) (have_nodes nodes c.args.roots.now.edges.now c.args.marks.now c.nodes.ensures.graph c.requires.marks)

pub returns-clause-made : goal.returns-clause-made
returns-clause-made c =
    let nodes = c.args.roots.now.aig.now in
    let edges = wired nodes c.args.marks.now in
    let part = wired_part nodes edges c.deref.result.now (length c.args.roots.now.base.now) (c.deref.ensures.value ∙ c.in_ok-nets.ensures.edges) c.requires.inputs in
    let all = ap length c.in_ok-nets.ensures.edges ∙ length-netted nodes edges in
    let inputs = c.requires.inputs in
    let wires : c.len.result - length c.args.roots.now.base.now ≡ length edges = omega (arith, all, inputs) in
    rw (c.in_ok-add_root_gates.ensures, c.in_ok-add_edge_gates.ensures, c.in_ok-add_wires.ensures, c.in_ok-add_inputs.ensures, c.in_ok-add_outputs.ensures, c.requires.empty, part, c.in_ok-nets.ensures.names, c.in_ok-nets.ensures.edges, wires)
    refl
