-- The clauses of the board's side ask the question.
use Rattle.std.proofs.Common.{◌≡◌, ℕ, ◌+◌, ◌*◌, ◌≤◌, List, length, arith, sym, ◌∙◌, ap, subst}
use Rattle.std.specs.Global.{Vec}
use Rattle.std.specs.Option.{option_copied}
use Rattle.std.proofs.lemmas.List.{length-map}
use Rattle.std.proofs.lemmas.Result.{IfOk-weaker}
use Rattle.eco_meaning.specs.Circuit.{names, AreTargets}
use Rattle.eco_meaning.specs.Meaning.{Goal}
use Rattle.eco_gates.specs.declared.gate.NetId.{NetId}
use Rattle.eco_netlist.specs.Netlists.{name_at}
use Rattle.eco_aig.specs.declared.edge.Edge.{Edge}
use Rattle.eco_trace.specs.Clauses.{Clauses}
use Rattle.eco_laws.specs.Asked.{IsMissed}
use Rattle.eco_aig.specs.Inputs.{AreInputs}
use Rattle.eco_compile.specs.Goals.{goal_nodes}
use Rattle.eco_aig.proofs.InputEdges.{inputs_stay}
use Rattle.eco_pose.specs.Boards.{row_nodes}
use Rattle.eco_pose.specs.Answers.{AsksFor}
use Rattle.eco_pose.specs.Shapes.{IsEncodedOnce}
use Rattle.eco_pose.proofs.RowLaws.{ok_both, grown}
use Rattle.eco_pose.proofs.missing.pose_missed.Goals as goal

pub missed_side-side-requires-clause-inputs : goal.missed_side-side-requires-clause-inputs
missed_side-side-requires-clause-inputs c =
    let goal : Goal = record { spec = c.args.spec.now; care = option_copied c.args.care } in
    let board = c.in_ok-board.board in
    subst (λ (edges : Vec Edge). AreInputs board.graph edges.items) (sym c.in_ok-board.ensures.inputs)
    (inputs_stay c.in_ok-graph.graph board.graph (goal_nodes goal) c.in_ok-graph.inputs.items c.in_ok-board.ensures.graph c.in_ok-board.ensures.grows c.in_ok-graph.ensures.inputs)

pub returns-clause-asks : goal.returns-clause-asks
returns-clause-asks c =
    let n = c.args.netlist.now in
    let rows = c.args.rows.now in
    let goal : Goal = record { spec = c.args.spec.now; care = option_copied c.args.care } in
    let side = c.in_ok-side.field-0 in
    IfOk-weaker c.posed_input.result (λ posed. (posed.clauses ≡ side.cnf) × (posed.first ≡ side.inputs.items))
    (λ posed. (targets : List (List ℕ)) → AreTargets n targets → AsksFor (IsMissed n goal targets rows) posed.first posed.clauses.clauses)
    (λ posed both targets are.
    subst (λ lits. AsksFor (IsMissed n goal targets rows) lits posed.clauses.clauses) (sym both.1)
    (subst (λ (clauses : Clauses). AsksFor (IsMissed n goal targets rows) side.inputs.items clauses.clauses) (sym both.0)
    (c.in_ok-side.ensures.asks goal targets are c.in_ok-board.ensures.asks)))
    (ok_both c.posed_input.result (λ posed. posed.clauses ≡ side.cnf) (λ posed. posed.first ≡ side.inputs.items) c.posed_input.ensures.clauses c.posed_input.ensures.first)

pub returns-clause-shape : goal.returns-clause-shape
returns-clause-shape c =
    let side = c.in_ok-side.field-0 in
    IfOk-weaker c.posed_input.result (λ posed. (posed.clauses ≡ side.cnf) × (posed.first ≡ side.inputs.items)) (λ posed. IsEncodedOnce posed posed.first)
    (λ posed both. record { made = side; side = c.in_ok-side.ensures.shape; clauses = both.0; reads = both.1 })
    (ok_both c.posed_input.result (λ posed. posed.clauses ≡ side.cnf) (λ posed. posed.first ≡ side.inputs.items) c.posed_input.ensures.clauses c.posed_input.ensures.first)

pub returns-clause-reads : goal.returns-clause-reads
returns-clause-reads c =
    IfOk-weaker c.posed_input.result (λ posed. posed.first ≡ c.in_ok-side.field-0.inputs.items) (λ posed. length posed.first ≡ length c.args.netlist.now.inputs)
    (λ posed same. ap length same ∙ c.in_ok-side.ensures.reads) c.posed_input.ensures.first

pub returns-clause-few : goal.returns-clause-few
returns-clause-few c =
    let n = c.args.netlist.now in
    let goal : Goal = record { spec = c.args.spec.now; care = option_copied c.args.care } in
    let board = c.in_ok-board.board in
    let count : length c.inputs.result.now ≡ length n.inputs = sym (length-map c.inputs.result.now (λ (net : NetId). name_at (names n) net.0)) ∙ ap length c.inputs.ensures.named in
    IfOk-weaker c.posed_input.result (λ posed. posed.clauses ≡ c.in_ok-side.field-0.cnf)
    (λ posed. posed.clauses.vars ≤ 1 + length n.inputs + goal_nodes goal + length c.args.rows.now * row_nodes n)
    (λ posed same. omega (arith, ap (λ (clauses : Clauses). clauses.vars) same, c.in_ok-side.ensures.few, grown c.in_ok-graph.graph board.graph (goal_nodes goal) c.in_ok-board.ensures.grows, c.in_ok-graph.ensures.nodes, count))
    c.posed_input.ensures.clauses
