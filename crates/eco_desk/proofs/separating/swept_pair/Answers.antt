-- The turn's edges, as two sides.
use Rattle.std.proofs.Common.{◌≡◌, Bool, true, false, List, ◌∷◌, length, map, sym, ◌∙◌, subst}
use Rattle.std.proofs.lemmas.Result.{IfOk-weaker}
use Rattle.eco_meaning.specs.Circuit.{names}
use Rattle.eco_netlist.specs.Netlists.{AreNets, IsChecked, names_at}
use Rattle.eco_compile.specs.Compiled.{AreEdges}
use Rattle.eco_aig.specs.Inputs.{AreInputs}
use Rattle.eco_pose.specs.Posing.{PosedValue}
use Rattle.eco_pose.specs.Questions.{AtTarget}
use Rattle.eco_pose.specs.Answers.{AsksSeparate}
use Rattle.eco_pose.specs.Shapes.{IsEncodedTwice}
use Rattle.eco_pose.proofs.SideLaws.{nets_of_splice, rests_fit, target_at}
use Rattle.eco_desk.specs.Boards.{IsSweptBoardOf}
use Rattle.eco_desk.specs.Pairs.{IsPairOf}
use Rattle.eco_desk.proofs.SweptLaws.{grown_inputs, rows_within, swept_stays}
use Rattle.eco_desk.proofs.DeskLaws.{pair_asks, pair_reads, pair_shape, turn_stays}
use Rattle.eco_desk.proofs.separating.swept_pair.Goals as goal

pub pair_edges-requires-clause-zeros : goal.pair_edges-requires-clause-zeros
pair_edges-requires-clause-zeros c =
    let problem = c.args.problem.now in
    let (before, target, behind, are, len) = target_at problem.implementation c.args.turn.now.number c.requires.number in
    (problem.goal, target ∷ behind, c.requires.turn.zeros (target ∷ behind) (c.requires.turn.left (target ∷ behind) (c.requires.separable before target behind are len).fits))

pub pair_edges-requires-clause-ones : goal.pair_edges-requires-clause-ones
pair_edges-requires-clause-ones c =
    let problem = c.args.problem.now in
    let (before, target, behind, are, len) = target_at problem.implementation c.args.turn.now.number c.requires.number in
    (problem.goal, target ∷ behind, c.requires.turn.ones (target ∷ behind) (c.requires.turn.left (target ∷ behind) (c.requires.separable before target behind are len).fits))

pub pair_edges-requires-clause-base : goal.pair_edges-requires-clause-base
pair_edges-requires-clause-base c =
    let turn = c.args.turn.now in
    subst (λ n. AreNets (names n) c.args.base.now) (sym c.requires.turn.spliced) (nets_of_splice c.args.problem.now.implementation turn.patches c.args.base.now c.requires.base)

pub pair_edges-requires-clause-rests : goal.pair_edges-requires-clause-rests
pair_edges-requires-clause-rests c =
    let turn = c.args.turn.now in
    let (before, target, behind, are, len) = target_at c.args.problem.now.implementation turn.number c.requires.number in
    let separable = c.requires.separable before target behind are len in
    rests_fit turn.spliced target behind c.args.rest.now (c.requires.turn.left (target ∷ behind) separable.fits) separable.rests

pub returns-in_err-edges-clause-turn : goal.returns-in_err-edges-clause-turn
returns-in_err-edges-clause-turn c =
    turn_stays c.args.problem.now.implementation c.args.problem.now.goal c.args.swept.now c.pair_edges.new.swept c.args.turn.now c.pair_edges.new.self c.pair_edges.ensures.continues c.pair_edges.ensures.stays c.requires.turn

pub returns-clause-turn : goal.returns-clause-turn
returns-clause-turn c =
    turn_stays c.args.problem.now.implementation c.args.problem.now.goal c.args.swept.now c.pair_edges.new.swept c.args.turn.now c.pair_edges.new.self c.pair_edges.ensures.continues c.pair_edges.ensures.stays c.requires.turn

pub pose_pair-requires-clause-inputs : goal.pose_pair-requires-clause-inputs
pose_pair-requires-clause-inputs c =
    let problem = c.args.problem.now in
    let new = c.pair_edges.new.swept in
    let board = swept_stays problem.implementation problem.goal c.args.swept.now new c.pair_edges.ensures.continues c.requires.swept in
    subst (AreEdges new.board.graph) (sym c.as_slice.ensures.value) board.laid_out.input_edges

pub pose_pair-requires-clause-base : goal.pose_pair-requires-clause-base
pose_pair-requires-clause-base c =
    subst (AreEdges c.pair_edges.new.swept.board.graph) (sym c.as_slice-2.ensures.value) c.in_ok-edges.ensures.edges.valued.within

pub pose_pair-requires-clause-first : goal.pose_pair-requires-clause-first
pose_pair-requires-clause-first c =
    let problem = c.args.problem.now in
    let turn = c.args.turn.now in
    let new = c.pair_edges.new.swept in
    let edges = c.in_ok-edges.edges.first.items in
    let (before, target, behind, are, len) = target_at problem.implementation turn.number c.requires.number in
    let known = c.requires.turn.zeros (target ∷ behind) (c.requires.turn.left (target ∷ behind) (c.requires.separable before target behind are len).fits) in
    subst (AreEdges new.board.graph) (sym c.as_slice-3.ensures.value)
    (rows_within turn.spliced problem.goal (target ∷ behind) new.board.graph new.board.inputs.items (map (λ (row : List Bool). false ∷ row) c.args.rest.now) edges
    (c.in_ok-edges.ensures.edges.first problem.goal (target ∷ behind) known))

pub pose_pair-requires-clause-second : goal.pose_pair-requires-clause-second
pose_pair-requires-clause-second c =
    let problem = c.args.problem.now in
    let turn = c.args.turn.now in
    let new = c.pair_edges.new.swept in
    let edges = c.in_ok-edges.edges.second.items in
    let (before, target, behind, are, len) = target_at problem.implementation turn.number c.requires.number in
    let known = c.requires.turn.ones (target ∷ behind) (c.requires.turn.left (target ∷ behind) (c.requires.separable before target behind are len).fits) in
    subst (AreEdges new.board.graph) (sym c.as_slice-4.ensures.value)
    (rows_within turn.spliced problem.goal (target ∷ behind) new.board.graph new.board.inputs.items (map (λ (row : List Bool). true ∷ row) c.args.rest.now) edges
    (c.in_ok-edges.ensures.edges.second problem.goal (target ∷ behind) known))

-- the board that grew is one of the problem
still_board : (c : goal.After-drop-edges-3) → IsSweptBoardOf c.args.problem.now.implementation c.args.problem.now.goal c.pair_edges.new.swept
still_board c = swept_stays c.args.problem.now.implementation c.args.problem.now.goal c.args.swept.now c.pair_edges.new.swept c.pair_edges.ensures.continues c.requires.swept

-- it has its inputs alone
inputs_are : (c : goal.After-drop-edges-3) → AreInputs c.pair_edges.new.swept.board.graph c.pair_edges.new.swept.board.inputs.items
inputs_are c = grown_inputs c.pair_edges.new.swept.board.graph c.pair_edges.new.swept.board.inputs.items c.nodes.ensures.graph (still_board c).inputs

-- the sides are of the turn's edges
pair_of : (c : goal.After-drop-edges-3) (posed : PosedValue) → IsPairOf c.pair_edges.new.swept.board.graph c.as_slice.result.now c.as_slice-2.result.now c.as_slice-3.result.now c.as_slice-4.result.now posed →
    IsPairOf c.pair_edges.new.swept.board.graph c.pair_edges.new.swept.board.inputs.items c.in_ok-edges.edges.base.items c.in_ok-edges.edges.first.items c.in_ok-edges.edges.second.items posed
pair_of c posed pair =
    let graph = c.pair_edges.new.swept.board.graph in
    let inputs = c.pair_edges.new.swept.board.inputs.items in
    let edges = c.in_ok-edges.edges in
    subst (λ list. IsPairOf graph inputs edges.base.items edges.first.items list posed) c.as_slice-4.ensures.value
    (subst (λ list. IsPairOf graph inputs edges.base.items list c.as_slice-4.result.now posed) c.as_slice-3.ensures.value
    (subst (λ list. IsPairOf graph inputs list c.as_slice-3.result.now c.as_slice-4.result.now posed) c.as_slice-2.ensures.value
    (subst (λ list. IsPairOf graph list c.as_slice-2.result.now c.as_slice-3.result.now c.as_slice-4.result.now posed) c.as_slice.ensures.value pair)))

pub returns-clause-asks : goal.returns-clause-asks
returns-clause-asks c =
    let problem = c.args.problem.now in
    let f = problem.implementation in
    let turn = c.args.turn.now in
    let new = c.pair_edges.new.swept in
    let base = c.args.base.now in
    let rest = c.args.rest.now in
    IfOk-weaker c.pose_pair.result (IsPairOf new.board.graph c.as_slice.result.now c.as_slice-2.result.now c.as_slice-3.result.now c.as_slice-4.result.now)
    (λ posed. AtTarget f turn.number (λ before target behind. AsksSeparate f problem.goal turn.patches before target behind rest (names_at (names f) base) posed))
    (λ posed pair before target behind are len.
    let separable = c.requires.separable before target behind are len in
    pair_asks f problem.goal c.args.swept.now.board turn new base rest c.in_ok-edges.edges posed before target behind (subst IsChecked c.implementation.ensures.value c.nets.ensures.checked) c.nets-2.ensures.checked
    c.implementation.ensures.problem c.requires.base c.requires.turn (still_board c) (inputs_are c) separable (c.requires.turn.left (target ∷ behind) separable.fits) c.in_ok-edges.ensures.edges (pair_of c posed pair))
    c.pose_pair.ensures

pub returns-clause-shape : goal.returns-clause-shape
returns-clause-shape c =
    let new = c.pair_edges.new.swept in
    let edges = c.in_ok-edges.edges in
    IfOk-weaker c.pose_pair.result (IsPairOf new.board.graph c.as_slice.result.now c.as_slice-2.result.now c.as_slice-3.result.now c.as_slice-4.result.now) IsEncodedTwice
    (λ posed pair. pair_shape new.board.graph new.board.inputs.items edges.base.items edges.first.items edges.second.items posed (inputs_are c) (pair_of c posed pair))
    c.pose_pair.ensures

pub returns-clause-reads : goal.returns-clause-reads
returns-clause-reads c =
    let f = c.args.problem.now.implementation in
    let new = c.pair_edges.new.swept in
    let edges = c.in_ok-edges.edges in
    let count = (still_board c).laid_out.input_count in
    IfOk-weaker c.pose_pair.result (IsPairOf new.board.graph c.as_slice.result.now c.as_slice-2.result.now c.as_slice-3.result.now c.as_slice-4.result.now)
    (λ posed. (length posed.first ≡ length f.inputs) × (length posed.second ≡ length f.inputs))
    (λ posed pair.
    let reads = pair_reads new.board.graph new.board.inputs.items edges.base.items edges.first.items edges.second.items posed (pair_of c posed pair) in
    (reads.0 ∙ count, reads.1 ∙ count))
    c.pose_pair.ensures
