-- The implementation's rows over the desk's graph.
use Rattle.std.proofs.Common.{◌≡◌, ℕ, ◌+◌, Bool, List, length, refl, sym, ◌∙◌, ap, subst}
use Rattle.std.specs.List.{All}
use Rattle.std.proofs.lemmas.Result.{IfOk-weaker}
use Rattle.eco_meaning.specs.Circuit.{Circuit, AreTargets}
use Rattle.eco_meaning.specs.Meaning.{Goal}
use Rattle.eco_compile.specs.Compiled.{AreEdges, HasOpenNets}
use Rattle.eco_laws.specs.Asked.{IsMissed}
use Rattle.eco_aig.specs.Inputs.{AreInputs}
use Rattle.eco_pose.specs.Boards.{AreRowEdges}
use Rattle.eco_pose.specs.Answers.{AsksFor}
use Rattle.eco_pose.proofs.SideLaws.{open_rows}
use Rattle.eco_desk.specs.declared.desk.Desk.{Desk}
use Rattle.eco_desk.specs.Boards.{AreKnown, StayKnown}
use Rattle.eco_desk.proofs.SweptLaws.{grown_inputs, rows_within, swept_stays}
use Rattle.eco_desk.proofs.DeskLaws.{desk_goes_on}
use Rattle.eco_desk.proofs.desk.Desk.swept_rectify.Goals as goal

pub row_edges-requires-clause-known : goal.row_edges-requires-clause-known
row_edges-requires-clause-known c =
    let problem = c.args.problem.now in
    let old = c.args.self.now in
    let (targets, are, long) = c.implementation-f.ensures.problem.targets.counted in
    (problem.goal, targets, subst (λ (n : Circuit). AreKnown n problem.goal targets old.swept.board old.known.items) (sym c.implementation-f.ensures.value) (c.requires.desk.known targets are))

pub row_edges-requires-clause-count : goal.row_edges-requires-clause-count
row_edges-requires-clause-count c =
    let problem = c.args.problem.now in
    let values = c.args.values.now in
    let (targets, are, long) = c.implementation-f.ensures.problem.targets.counted in
    subst (λ (n : Circuit). All (λ (row : List Bool). HasOpenNets n (length n.inputs + length row)) values) (sym c.implementation-f.ensures.value)
    (open_rows problem.implementation targets values are (c.requires.rows targets are))

pub returns-in_err-wrong-clause-desk : goal.returns-in_err-wrong-clause-desk
returns-in_err-wrong-clause-desk c =
    let old = c.args.self.now in
    let new : Desk = record old { swept = c.row_edges.new.swept; known = c.row_edges.new.known } in
    desk_goes_on c.args.problem.now old new c.requires.desk c.row_edges.ensures.continues
    (subst (λ (n : Circuit). StayKnown n old.swept.board old.known.items new.swept.board new.known.items) c.implementation-f.ensures.value c.row_edges.ensures.known) refl

pub pose_missed-requires-clause-inputs : goal.pose_missed-requires-clause-inputs
pose_missed-requires-clause-inputs c =
    let problem = c.args.problem.now in
    let new = c.row_edges.new.swept in
    let board = swept_stays problem.implementation problem.goal c.args.self.now.swept new c.row_edges.ensures.continues c.requires.desk.swept in
    subst (AreInputs new.board.graph) (sym c.as_slice.ensures.value) (grown_inputs new.board.graph new.board.inputs.items c.nodes.ensures.graph board.inputs)

pub pose_missed-requires-clause-wrong : goal.pose_missed-requires-clause-wrong
pose_missed-requires-clause-wrong c =
    let problem = c.args.problem.now in
    let old = c.args.self.now in
    let new = c.row_edges.new.swept in
    let n = c.implementation-f.result.now in
    let (targets, are, long) = c.implementation-f.ensures.problem.targets.counted in
    let known = subst (λ (n : Circuit). AreKnown n problem.goal targets old.swept.board old.known.items) (sym c.implementation-f.ensures.value) (c.requires.desk.known targets are) in
    subst (AreEdges new.board.graph) (sym c.as_slice-2.ensures.value)
    (rows_within n problem.goal targets new.board.graph new.board.inputs.items c.args.values.now c.in_ok-wrong.wrong.items (c.in_ok-wrong.ensures.edges problem.goal targets known))

pub returns-clause-asks : goal.returns-clause-asks
returns-clause-asks c =
    let problem = c.args.problem.now in
    let f = problem.implementation in
    let values = c.args.values.now in
    let old = c.args.self.now in
    let new = c.row_edges.new.swept in
    let graph = new.board.graph in
    let inputs = c.as_slice.result.now in
    let wrong = c.as_slice-2.result.now in
    let same = c.implementation-f.ensures.value in
    let board = swept_stays f problem.goal old.swept new c.row_edges.ensures.continues c.requires.desk.swept in
    IfOk-weaker c.pose_missed.result
    (λ posed. (n : Circuit) (goal : Goal) (targets : List (List ℕ)) (rows : List (List Bool)) → length inputs ≡ length n.inputs → AreRowEdges n goal targets graph inputs rows wrong → AsksFor (IsMissed n goal targets rows) posed.first posed.clauses.clauses)
    (λ posed. (targets : List (List ℕ)) → AreTargets f targets → AsksFor (IsMissed f problem.goal targets values) posed.first posed.clauses.clauses)
    (λ posed asks targets are.
    let known = subst (λ (n : Circuit). AreKnown n problem.goal targets old.swept.board old.known.items) (sym same) (c.requires.desk.known targets are) in
    let tell = subst (λ (n : Circuit). AreRowEdges n problem.goal targets graph new.board.inputs.items values c.in_ok-wrong.wrong.items) same (c.in_ok-wrong.ensures.edges problem.goal targets known) in
    asks f problem.goal targets values (ap length c.as_slice.ensures.value ∙ board.laid_out.input_count)
    (subst (λ edges. AreRowEdges f problem.goal targets graph inputs values edges) (sym c.as_slice-2.ensures.value)
    (subst (λ edges. AreRowEdges f problem.goal targets graph edges values c.in_ok-wrong.wrong.items) (sym c.as_slice.ensures.value) tell)))
    c.pose_missed.ensures.asks

pub returns-clause-reads : goal.returns-clause-reads
returns-clause-reads c =
    let problem = c.args.problem.now in
    let board = swept_stays problem.implementation problem.goal c.args.self.now.swept c.row_edges.new.swept c.row_edges.ensures.continues c.requires.desk.swept in
    IfOk-weaker c.pose_missed.result (λ posed. length posed.first ≡ length c.as_slice.result.now) (λ posed. length posed.first ≡ length problem.implementation.inputs)
    (λ posed count. count ∙ ap length c.as_slice.ensures.value ∙ board.laid_out.input_count) c.pose_missed.ensures.reads

pub returns-clause-desk : goal.returns-clause-desk
returns-clause-desk c =
    let old = c.args.self.now in
    let new : Desk = record old { swept = c.row_edges.new.swept; known = c.row_edges.new.known } in
    desk_goes_on c.args.problem.now old new c.requires.desk c.row_edges.ensures.continues
    (subst (λ (n : Circuit). StayKnown n old.swept.board old.known.items new.swept.board new.known.items) c.implementation-f.ensures.value c.row_edges.ensures.known) refl
