-- The side is of the problem's board.
use Rattle.std.proofs.Common.{◌≡◌, ℕ, ◌+◌, ◌*◌, ◌≤◌, Bool, List, ◌∷◌, length, map, arith, sym, ◌∙◌, ap, subst}
use Rattle.std.specs.Global.{Vec}
use Rattle.std.specs.List.{All}
use Rattle.std.specs.Option.{option_copied}
use Rattle.std.proofs.lemmas.List.{length-map}
use Rattle.std.proofs.lemmas.Result.{IfOk-weaker}
use Rattle.eco_gates.specs.declared.gate.NetId.{NetId}
use Rattle.eco_meaning.specs.Circuit.{Circuit, names, AreTargets}
use Rattle.eco_meaning.specs.Meaning.{Goal}
use Rattle.eco_netlist.specs.Netlists.{name_at, names_at}
use Rattle.eco_aig.specs.declared.edge.Edge.{Edge}
use Rattle.eco_compile.specs.Compiled.{HasOpenNets, needed_nodes}
use Rattle.eco_aig.specs.Inputs.{AreInputs}
use Rattle.eco_compile.specs.Goals.{IsGoalOf, goal_nodes}
use Rattle.eco_aig.proofs.InputEdges.{inputs_stay}
use Rattle.eco_compile.proofs.Problems.{goal_of_problem}
use Rattle.eco_pose.specs.Boards.{AsksOf, IsSideGraph, row_nodes}
use Rattle.eco_pose.proofs.RowLaws.{grown}
use Rattle.eco_pose.proofs.SideLaws.{same_goal, rows_with_first}
use Rattle.eco_pose.proofs.separating.side.Goals as goal

pub lay_out-requires-clause-goal : goal.lay_out-requires-clause-goal
lay_out-requires-clause-goal c =
    let problem = c.args.problem.now in
    subst (λ f. IsGoalOf f (record { spec = c.specification.result.now; care = option_copied c.care.result })) (sym c.implementation-f.ensures.value)
    (subst (IsGoalOf problem.implementation) (sym (same_goal problem.goal c.specification.result.now (option_copied c.care.result) c.specification.ensures.value c.care.ensures.value))
    (goal_of_problem problem.implementation problem.goal c.care.ensures.problem))

pub side_over-side-requires-clause-inputs : goal.side_over-side-requires-clause-inputs
side_over-side-requires-clause-inputs c =
    let asked : Goal = record { spec = c.specification.result.now; care = option_copied c.care.result } in
    let board = c.in_ok-board.board in
    subst (λ (edges : Vec Edge). AreInputs board.graph edges.items) (sym c.in_ok-board.ensures.inputs)
    (inputs_stay c.in_ok-graph.graph board.graph (goal_nodes asked) c.in_ok-graph.inputs.items c.in_ok-board.ensures.graph c.in_ok-board.ensures.grows c.in_ok-graph.ensures.inputs)

pub side_over-side-requires-clause-rows : goal.side_over-side-requires-clause-rows
side_over-side-requires-clause-rows c =
    let n = c.args.n.now in
    subst (All (λ (row : List Bool). HasOpenNets n (length n.inputs + length row))) (sym (c.as_slice.ensures.value ∙ c.in_ok-rows.ensures)) (rows_with_first n c.args.bit c.args.rest.now c.requires.rests)

pub returns-clause-graph : goal.returns-clause-graph
returns-clause-graph c =
    let n = c.args.n.now in
    let problem = c.args.problem.now in
    let f = c.implementation-f.result.now in
    let base = names_at (names n) c.args.base.now in
    let rows = map (λ (row : List Bool). c.args.bit ∷ row) c.args.rest.now in
    let asked : Goal = record { spec = c.specification.result.now; care = option_copied c.care.result } in
    let same = same_goal problem.goal c.specification.result.now (option_copied c.care.result) c.specification.ensures.value c.care.ensures.value in
    IfOk-weaker c.side_over-side.result
    (λ side. (f : Circuit) (goal : Goal) (targets : List (List ℕ)) → n.inputs ≡ f.inputs → n.outputs ≡ f.outputs → AreTargets n targets → AsksOf f goal c.in_ok-board.board → IsSideGraph n goal targets c.as_slice.result.now base side)
    (λ side. (targets : List (List ℕ)) → AreTargets n targets → IsSideGraph n problem.goal targets rows base side)
    (λ side tells targets are.
    subst (λ g. IsSideGraph n g targets rows base side) same
    (subst (λ list. IsSideGraph n asked targets list base side) (c.as_slice.ensures.value ∙ c.in_ok-rows.ensures)
    (tells f asked targets (c.requires.inputs ∙ ap (λ (g : Circuit). g.inputs) (sym c.implementation-f.ensures.value)) (c.requires.outputs ∙ ap (λ (g : Circuit). g.outputs) (sym c.implementation-f.ensures.value)) are c.in_ok-board.ensures.asks)))
    c.side_over-side.ensures.graph

pub returns-clause-few : goal.returns-clause-few
returns-clause-few c =
    let n = c.args.n.now in
    let problem = c.args.problem.now in
    let f = c.implementation-f.result.now in
    let rest = c.args.rest.now in
    let asked : Goal = record { spec = c.specification.result.now; care = option_copied c.care.result } in
    let same = same_goal problem.goal c.specification.result.now (option_copied c.care.result) c.specification.ensures.value c.care.ensures.value in
    let board = c.in_ok-board.board in
    let count : length c.inputs.result.now ≡ length f.inputs = sym (length-map c.inputs.result.now (λ (net : NetId). name_at (names f) net.0)) ∙ ap length c.inputs.ensures.named in
    let rows : length c.as_slice.result.now * row_nodes n ≡ length rest * row_nodes n =
    ap (λ m. m * row_nodes n) (ap length (c.as_slice.ensures.value ∙ c.in_ok-rows.ensures) ∙ length-map rest (λ (row : List Bool). c.args.bit ∷ row)) in
    IfOk-weaker c.side_over-side.result (λ side. side.cnf.vars ≤ length board.graph + needed_nodes n + length c.as_slice.result.now * row_nodes n)
    (λ side. side.cnf.vars ≤ 1 + length problem.implementation.inputs + goal_nodes problem.goal + needed_nodes n + length rest * row_nodes n)
    (λ side few. omega (arith, few, rows, grown c.in_ok-graph.graph board.graph (goal_nodes asked) c.in_ok-board.ensures.grows, ap goal_nodes same, c.in_ok-graph.ensures.nodes, count, ap (λ (g : Circuit). length g.inputs) c.implementation-f.ensures.value))
    c.side_over-side.ensures.few
