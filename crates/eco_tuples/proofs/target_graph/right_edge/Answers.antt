-- The copy at the input tells where the implementation is right.
use Rattle.std.proofs.Common.{◌≡◌, ◌+◌, ◌*◌, ◌++◌, length, map, refl, sym, ◌∙◌, ap, subst, arith}
use Rattle.std.specs.Option.{option_copied}
use Rattle.std.proofs.lemmas.List.{length-map, length-append}
use Rattle.eco_meaning.specs.Circuit.{Circuit, names, AreTargets}
use Rattle.eco_meaning.specs.Meaning.{Goal}
use Rattle.eco_netlist.specs.Netlists.{IsChecked, names_at}
use Rattle.eco_aig.specs.declared.node.Node.TheVariants.{Zero}
use Rattle.eco_aig.specs.Edges.{complement}
use Rattle.eco_aig.proofs.Growing.{node_stays, grows_join}
use Rattle.eco_compile.specs.Compiled.{AreEdges, HasOpenNets, needed_nodes}
use Rattle.eco_compile.specs.Valued.{AreValued}
use Rattle.eco_compile.specs.Goals.{IsGoalOf, AreGoalEdges, goal_nodes}
use Rattle.eco_compile.specs.Wrong.{IsMiter, IsWrongEdge}
use Rattle.eco_compile.proofs.Problems.{goal_of_problem}
use Rattle.eco_pose.specs.Boards.{constant_edge}
use Rattle.eco_pose.proofs.RowLaws.{constant_edges, miter_tells}
use Rattle.eco_pose.proofs.SideLaws.{same_goal, moved}
use Rattle.eco_tuples.specs.declared.target_graph.TargetGraph.{TargetGraph}
use Rattle.eco_tuples.specs.Graphs.{Stretches, TellsRight}
use Rattle.eco_tuples.proofs.GraphLaws.{stretched, right_from_wrong}
use Rattle.eco_tuples.proofs.target_graph.right_edge.Goals.{After-drop-inputs-2}
use Rattle.eco_tuples.proofs.target_graph.right_edge.Goals as goal

pub goal_edges-requires-clause-goal : goal.goal_edges-requires-clause-goal
goal_edges-requires-clause-goal c =
    let problem = c.args.problem.now in
    let asked : Goal = record { spec = c.specification.result.now; care = option_copied c.care.result } in
    moved IsGoalOf problem.implementation c.implementation-f.result.now problem.goal asked (sym c.implementation-f.ensures.value)
    (sym (same_goal problem.goal c.specification.result.now (option_copied c.care.result) c.specification.ensures.value c.care.ensures.value)) (goal_of_problem problem.implementation problem.goal c.care.ensures.problem)

pub goal_edges-requires-clause-edges : goal.goal_edges-requires-clause-edges
goal_edges-requires-clause-edges c =
    subst (AreEdges c.args.targets.now.graph) (sym (c.as_slice.ensures.value ∙ c.in_ok-inputs.ensures))
    (constant_edges c.args.targets.now.graph c.args.input.now c.requires.targets.graph.constant)

pub valued_edges-requires-clause-input_edges : goal.valued_edges-requires-clause-input_edges
valued_edges-requires-clause-input_edges c =
    let asked : Goal = record { spec = c.specification.result.now; care = option_copied c.care.result } in
    subst (AreEdges c.goal_edges.new.aig) (sym (c.as_slice-2.ensures.value ∙ c.in_ok-inputs.ensures))
    (constant_edges c.goal_edges.new.aig c.args.input.now
    (node_stays c.args.targets.now.graph c.goal_edges.new.aig (goal_nodes asked) c.goal_edges.ensures.grows 0 Zero c.requires.targets.graph.constant))

-- the graph afterwards
abbrev after : After-drop-inputs-2 → TargetGraph
after c = record { alloc = c.args.targets.now.alloc; graph = c.miter.new.aig; opens = c.args.targets.now.opens }

stretches : (c : After-drop-inputs-2) → Stretches c.args.targets.now (after c)
stretches c =
    let f = c.implementation-f.result.now in
    let asked : Goal = record { spec = c.specification.result.now; care = option_copied c.care.result } in
    let first = goal_nodes asked in
    let third = 4 * length c.as_slice-4.result.now + 1 in
    record {
      opens = refl;
      most = first + needed_nodes f + third;
      grows =
          grows_join c.args.targets.now.graph c.valued_edges.new.aig c.miter.new.aig (first + needed_nodes f) third
          (grows_join c.args.targets.now.graph c.goal_edges.new.aig c.valued_edges.new.aig first (needed_nodes f) c.goal_edges.ensures.grows c.valued_edges.ensures.grows)
          c.miter.ensures.grows;
    }

pub returns-clause-edge : goal.returns-clause-edge
returns-clause-edge c targets are_targets =
    let problem = c.args.problem.now in
    let f = c.implementation-f.result.now in
    let asked : Goal = record { spec = c.specification.result.now; care = option_copied c.care.result } in
    let same_f = c.implementation-f.ensures.value in
    let same = same_goal problem.goal c.specification.result.now (option_copied c.care.result) c.specification.ensures.value c.care.ensures.value in
    let are : AreTargets f targets = subst (λ n. AreTargets n targets) (sym same_f) are_targets in
    let first = c.goal_edges.new.aig in
    let mid = c.valued_edges.new.aig in
    let new = c.miter.new.aig in
    let x = c.args.input.now in
    let inputs = map constant_edge x in
    let opens = c.args.targets.now.opens.items in
    let outputs = c.in_ok-outputs.outputs.items in
    let wanted = c.in_ok-goal.goal.outputs.items in
    let cared = c.in_ok-goal.goal.cared in
    let wrong = c.in_ok-wrong.wrong in
    let constant : c.as_slice.result.now ≡ inputs = c.as_slice.ensures.value ∙ c.in_ok-inputs.ensures in
    let constant_again : c.as_slice-2.result.now ≡ inputs = c.as_slice-2.ensures.value ∙ c.in_ok-inputs.ensures in
    let checked : IsChecked f = subst IsChecked (sym same_f) c.implementation-f.ensures.problem.implementation in
    let long : length inputs ≡ length f.inputs = length-map x constant_edge ∙ c.requires.input ∙ ap (λ (n : Circuit). length n.inputs) (sym same_f) in
    let (counted, are_counted, count) = c.requires.targets.count in
    let open_nets : HasOpenNets f (length inputs + length opens) = (counted, subst (λ n. AreTargets n counted) (sym same_f) are_counted, omega (arith, length-append f.inputs counted, count, long)) in
    let asks : AreGoalEdges f asked first inputs wanted cared = subst (λ edges. AreGoalEdges f asked first edges wanted cared) constant c.in_ok-goal.ensures.edges in
    let valued : AreValued f mid (f.inputs ++ targets ++ f.outputs) (inputs ++ opens ++ outputs) =
    subst (λ names. AreValued f mid (f.inputs ++ targets ++ names) (inputs ++ opens ++ outputs)) c.outputs.ensures.named
    (subst (λ edges. AreValued f mid (f.inputs ++ targets ++ names_at (names f) c.outputs.result.now) (edges ++ opens ++ outputs)) constant_again
    (subst (λ edges. AreValued f mid (f.inputs ++ targets ++ names_at (names f) c.outputs.result.now) (c.as_slice-2.result.now ++ edges ++ outputs)) c.as_slice-3.ensures.value (c.in_ok-outputs.ensures.values targets are))) in
    let made : IsMiter new outputs wanted cared wrong = subst (λ edges. IsMiter new edges wanted cared wrong) c.as_slice-4.ensures.value (subst (λ edges. IsMiter new c.as_slice-4.result.now edges cared wrong) c.as_slice-5.ensures.value c.in_ok-wrong.ensures.miter) in
    let tells : IsWrongEdge f asked targets new inputs opens wrong =
    miter_tells f f asked targets first mid new (needed_nodes f) (4 * length c.as_slice-4.result.now + 1) inputs opens outputs wanted cared wrong checked refl refl are asks c.valued_edges.ensures.grows c.miter.ensures.grows valued long open_nets made in
    let zero = node_stays c.args.targets.now.graph new (stretches c).most (stretches c).grows 0 Zero c.requires.targets.graph.constant in
    subst (λ e. TellsRight problem.implementation problem.goal targets new opens x e) (sym c.not.ensures.sign)
    (moved (λ n g. TellsRight n g targets new opens x (complement wrong)) f problem.implementation asked problem.goal same_f same (right_from_wrong f asked targets new opens x wrong zero tells))

pub returns-clause-stretches : goal.returns-clause-stretches
returns-clause-stretches c = stretches c

pub returns-clause-targets : goal.returns-clause-targets
returns-clause-targets c = stretched c.args.problem.now.implementation c.args.targets.now (after c) c.requires.targets c.nodes.ensures.graph (stretches c)
