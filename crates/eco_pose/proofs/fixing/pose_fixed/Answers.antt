-- The clauses of the board's side ask the question.
use Rattle.std.proofs.Common.{◌≡◌, ℕ, ◌+◌, ◌≤◌, List, length, arith, sym, ◌∙◌, ap, subst}
use Rattle.std.specs.Global.{Vec}
use Rattle.std.specs.Option.{option_copied}
use Rattle.std.proofs.lemmas.List.{length-map, length-append}
use Rattle.std.proofs.lemmas.Result.{IfOk-weaker}
use Rattle.eco_meaning.specs.Circuit.{Circuit, names, AreTargets}
use Rattle.eco_meaning.specs.Meaning.{Goal}
use Rattle.eco_gates.specs.declared.gate.NetId.{NetId}
use Rattle.eco_netlist.specs.Netlists.{name_at, names_at}
use Rattle.eco_netlist.proofs.MisfitLemmas.{targets_unique}
use Rattle.eco_aig.specs.declared.edge.Edge.{Edge}
use Rattle.eco_compile.specs.Compiled.{AreEdges}
use Rattle.eco_trace.specs.Clauses.{Clauses}
use Rattle.eco_laws.specs.Asked.{IsFixed}
use Rattle.eco_aig.specs.Inputs.{AreInputs}
use Rattle.eco_compile.specs.Goals.{goal_nodes}
use Rattle.eco_aig.proofs.InputEdges.{inputs_stay}
use Rattle.eco_pose.specs.Boards.{constant_edge, row_nodes}
use Rattle.eco_pose.specs.Answers.{AsksFor}
use Rattle.eco_pose.specs.Shapes.{IsEncodedOnce}
use Rattle.eco_pose.proofs.RowLaws.{ok_both, grown, constant_edges}
use Rattle.eco_pose.proofs.fixing.pose_fixed.Goals as goal

pub lay_out-requires-clause-edges : goal.lay_out-requires-clause-edges
lay_out-requires-clause-edges c =
    subst (AreEdges c.in_ok-graph.graph) (sym c.in_ok-inputs.ensures) (constant_edges c.in_ok-graph.graph c.args.input.now c.nodes.ensures.graph.constant)

pub fixed_side-side-requires-clause-opens : goal.fixed_side-side-requires-clause-opens
fixed_side-side-requires-clause-opens c =
    let goal : Goal = record { spec = c.args.spec.now; care = option_copied c.args.care } in
    let board = c.in_ok-board.board in
    subst (AreInputs board.graph) (sym c.as_slice.ensures.value)
    (inputs_stay c.in_ok-graph.graph board.graph (goal_nodes goal) c.in_ok-graph.opens.items c.in_ok-board.ensures.graph c.in_ok-board.ensures.grows c.in_ok-graph.ensures.inputs)

-- how many open nets there are
opens_count : (n : Circuit) (nets : List NetId) (opens : List Edge) → length opens ≡ length nets → length opens ≡ length (names_at (names n) nets)
opens_count n nets opens count = count ∙ sym (length-map nets (λ (net : NetId). name_at (names n) net.0))

pub fixed_side-side-requires-clause-count : goal.fixed_side-side-requires-clause-count
fixed_side-side-requires-clause-count c =
    let n = c.args.netlist.now in
    let targets = names_at (names n) c.targets.result.now in (
      targets,
      c.targets.ensures.named,
      omega (arith, length-append n.inputs targets, ap (λ (v : Vec Edge). length v.items) c.in_ok-board.ensures.inputs, ap length c.in_ok-inputs.ensures, length-map c.args.input.now constant_edge, c.requires.input, ap length c.as_slice.ensures.value, opens_count n c.targets.result.now c.in_ok-graph.opens.items c.in_ok-graph.ensures.count),
    )

pub fixed_side-side-requires-clause-fixed : goal.fixed_side-side-requires-clause-fixed
fixed_side-side-requires-clause-fixed c =
    let n = c.args.netlist.now in
    let targets = names_at (names n) c.targets.result.now in
    omega (arith, c.requires.fixed targets c.targets.ensures.named, ap length c.as_slice.ensures.value, opens_count n c.targets.result.now c.in_ok-graph.opens.items c.in_ok-graph.ensures.count)

pub returns-clause-asks : goal.returns-clause-asks
returns-clause-asks c =
    let n = c.args.netlist.now in
    let input = c.args.input.now in
    let fixed = c.args.fixed.now in
    let goal : Goal = record { spec = c.args.spec.now; care = option_copied c.args.care } in
    let side = c.in_ok-side.field-0 in
    let constant = ap (λ (v : Vec Edge). v.items) c.in_ok-board.ensures.inputs ∙ c.in_ok-inputs.ensures in
    IfOk-weaker c.posed_targets.result (λ posed. (posed.clauses ≡ side.cnf) × (posed.targets ≡ side.inputs.items))
    (λ posed. (targets : List (List ℕ)) → AreTargets n targets → AsksFor (IsFixed n goal targets fixed input) posed.targets posed.clauses.clauses)
    (λ posed both targets are.
    subst (λ lits. AsksFor (IsFixed n goal targets fixed input) lits posed.clauses.clauses) (sym both.1)
    (subst (λ (clauses : Clauses). AsksFor (IsFixed n goal targets fixed input) side.inputs.items clauses.clauses) (sym both.0)
    (c.in_ok-side.ensures.asks goal targets input are constant c.in_ok-board.ensures.asks)))
    (ok_both c.posed_targets.result (λ posed. posed.clauses ≡ side.cnf) (λ posed. posed.targets ≡ side.inputs.items) c.posed_targets.ensures.clauses c.posed_targets.ensures.targets)

pub returns-clause-shape : goal.returns-clause-shape
returns-clause-shape c =
    let side = c.in_ok-side.field-0 in
    IfOk-weaker c.posed_targets.result (λ posed. (posed.clauses ≡ side.cnf) × (posed.targets ≡ side.inputs.items)) (λ posed. IsEncodedOnce posed posed.targets)
    (λ posed both. record { made = side; side = c.in_ok-side.ensures.shape; clauses = both.0; reads = both.1 })
    (ok_both c.posed_targets.result (λ posed. posed.clauses ≡ side.cnf) (λ posed. posed.targets ≡ side.inputs.items) c.posed_targets.ensures.clauses c.posed_targets.ensures.targets)

pub returns-clause-reads : goal.returns-clause-reads
returns-clause-reads c =
    let n = c.args.netlist.now in
    let nets = c.targets.result.now in
    let side = c.in_ok-side.field-0 in
    IfOk-weaker c.posed_targets.result (λ posed. posed.targets ≡ side.inputs.items) (λ posed. (targets : List (List ℕ)) → AreTargets n targets → length posed.targets ≡ length targets)
    (λ posed same targets are.
    ap length same ∙ c.in_ok-side.ensures.reads ∙ ap length c.as_slice.ensures.value ∙ opens_count n nets c.in_ok-graph.opens.items c.in_ok-graph.ensures.count
    ∙ ap length (sym (targets_unique n targets (names_at (names n) nets) are c.targets.ensures.named)))
    c.posed_targets.ensures.targets

pub returns-clause-few : goal.returns-clause-few
returns-clause-few c =
    let n = c.args.netlist.now in
    let goal : Goal = record { spec = c.args.spec.now; care = option_copied c.args.care } in
    let board = c.in_ok-board.board in
    IfOk-weaker c.posed_targets.result (λ posed. posed.clauses ≡ c.in_ok-side.field-0.cnf)
    (λ posed. (targets : List (List ℕ)) → AreTargets n targets → posed.clauses.vars ≤ 1 + length targets + goal_nodes goal + row_nodes n)
    (λ posed same targets are.
    omega (
      arith,
      ap (λ (clauses : Clauses). clauses.vars) same,
      c.in_ok-side.ensures.few,
      grown c.in_ok-graph.graph board.graph (goal_nodes goal) c.in_ok-board.ensures.grows,
      c.in_ok-graph.ensures.nodes,
      ap length (targets_unique n targets (names_at (names n) c.targets.result.now) are c.targets.ensures.named),
      length-map c.targets.result.now (λ (net : NetId). name_at (names n) net.0),
    ))
    c.posed_targets.ensures.clauses
