-- The nets have the bits of their edges in the copy at the input.
use Rattle.std.proofs.Common.{◌++◌, length, map, refl, sym, ◌∙◌, ap, subst}
use Rattle.eco_meaning.specs.Circuit.{names}
use Rattle.eco_netlist.specs.Netlists.{names_at}
use Rattle.eco_netlist.proofs.MisfitLemmas.{targets_unique}
use Rattle.eco_netlist.proofs.NetNames.{All-names_at}
use Rattle.eco_aig.specs.declared.node.Node.TheVariants.{Zero}
use Rattle.eco_aig.proofs.Growing.{node_stays}
use Rattle.eco_compile.specs.Compiled.{AreEdges, needed_nodes}
use Rattle.eco_compile.specs.Valued.{AreValued}
use Rattle.eco_pose.specs.Boards.{constant_edge}
use Rattle.eco_pose.proofs.RowLaws.{constant_edges}
use Rattle.eco_tuples.specs.declared.target_graph.TargetGraph.{TargetGraph}
use Rattle.eco_tuples.proofs.GraphLaws.{stretched, values_at}
use Rattle.eco_tuples.proofs.target_graph.edges_at.Goals as goal

pub valued_edges-requires-clause-input_edges : goal.valued_edges-requires-clause-input_edges
valued_edges-requires-clause-input_edges c =
    subst (AreEdges c.args.targets.now.graph) (sym (c.as_slice.ensures.value ∙ c.in_ok-inputs.ensures))
    (constant_edges c.args.targets.now.graph c.args.input.now c.requires.targets.graph.constant)

pub returns-clause-values : goal.returns-clause-values
returns-clause-values c targets are =
    let f = c.args.netlist.now in
    let nets = names_at (names f) c.args.nets.now in
    let new = c.valued_edges.new.aig in
    let x = c.args.input.now in
    let opens = c.args.targets.now.opens.items in
    let edges = c.in_ok-edges.edges.items in
    let (counted, are_counted, count) = c.requires.targets.count in
    let zero = node_stays c.args.targets.now.graph new (needed_nodes f) c.valued_edges.ensures.grows 0 Zero c.requires.targets.graph.constant in
    values_at f targets nets new opens edges x c.nets.ensures.checked zero are (sym (ap length (targets_unique f targets counted are are_counted) ∙ count)) c.requires.input (All-names_at (names f) c.args.nets.now c.requires.nets)
    (subst (λ list. AreValued f new (f.inputs ++ targets ++ nets) (map constant_edge x ++ list ++ edges)) c.as_slice-2.ensures.value
    (subst (λ list. AreValued f new (f.inputs ++ targets ++ nets) (list ++ c.as_slice-2.result.now ++ edges)) (c.as_slice.ensures.value ∙ c.in_ok-inputs.ensures) (c.in_ok-edges.ensures.values targets are)))

pub returns-clause-targets : goal.returns-clause-targets
returns-clause-targets c =
    let after : TargetGraph = record { alloc = c.args.targets.now.alloc; graph = c.valued_edges.new.aig; opens = c.args.targets.now.opens } in
    stretched c.args.netlist.now c.args.targets.now after c.requires.targets c.nodes.ensures.graph (record { opens = refl; most = needed_nodes c.args.netlist.now; grows = c.valued_edges.ensures.grows })
