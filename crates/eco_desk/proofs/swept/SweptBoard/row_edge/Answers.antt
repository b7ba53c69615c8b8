-- The merged edge tells what the board's edge tells.
use Rattle.std.proofs.Common.{ℕ, ◌+◌, List, [], length, sym, ◌∙◌, ap, subst}
use Rattle.std.specs.Global.{Vec}
use Rattle.std.proofs.lemmas.Result.{IfOk-weaker}
use Rattle.eco_meaning.specs.Meaning.{Goal}
use Rattle.eco_aig.specs.declared.edge.Edge.{Edge}
use Rattle.eco_aig.specs.Edges.{value_of}
use Rattle.eco_aig.specs.Graph.{HasValue}
use Rattle.eco_pose.specs.Boards.{IsRowEdge, row_nodes}
use Rattle.eco_desk.specs.declared.swept.SweptBoard.{SweptBoard}
use Rattle.eco_desk.specs.Boards.{AreKnown}
use Rattle.eco_desk.proofs.SweptLaws.{continues_grown, continues_both, row_stays, same_row}
use Rattle.eco_desk.proofs.swept.SweptBoard.row_edge.Goals as goal

pub row_edge-requires-clause-laid_out : goal.row_edge-requires-clause-laid_out
row_edge-requires-clause-laid_out c = c.requires.known.2.laid_out

pub row_edge-requires-clause-count : goal.row_edge-requires-clause-count
row_edge-requires-clause-count c =
    let (targets, are, count) = c.requires.count in
    (targets, are, count ∙ ap (λ m. m + length c.args.row.now) (sym c.requires.known.2.laid_out.input_count))

pub merged_edge-requires-clause-merged : goal.merged_edge-requires-clause-merged
merged_edge-requires-clause-merged c =
    (continues_grown c.args.self.now c.row_edge.new.self (row_nodes c.args.netlist.now) c.row_edge.ensures.keeps c.row_edge.ensures.grows c.requires.merged).merged

pub returns-in_err-plain-clause-continues : goal.returns-in_err-plain-clause-continues
returns-in_err-plain-clause-continues c =
    continues_grown c.args.self.now c.row_edge.new.self (row_nodes c.args.netlist.now) c.row_edge.ensures.keeps c.row_edge.ensures.grows c.requires.merged

pub returns-clause-continues : goal.returns-clause-continues
returns-clause-continues c =
    let old = c.args.self.now in
    let mid : SweptBoard = record old { board = c.row_edge.new.self } in
    continues_both old mid c.merged_edge.new.self (continues_grown old c.row_edge.new.self (row_nodes c.args.netlist.now) c.row_edge.ensures.keeps c.row_edge.ensures.grows c.requires.merged) c.merged_edge.ensures.continues

pub returns-clause-edge : goal.returns-clause-edge
returns-clause-edge c =
    let n = c.args.netlist.now in
    let old = c.args.self.now in
    let mid : SweptBoard = record old { board = c.row_edge.new.self } in
    let new = c.merged_edge.new.self in
    let row = c.args.row.now in
    let plain = c.in_ok-plain.plain in
    IfOk-weaker c.merged_edge.result (λ image. HasValue new.board.graph image (λ w. value_of w plain))
    (λ e. (goal : Goal) (targets : List (List ℕ)) → AreKnown n goal targets old.board [] → IsRowEdge n goal targets new.board.graph new.board.inputs.items row e)
    (λ e has goal targets are.
    same_row n goal targets new.board.graph new.board.inputs.items row plain e has
    (row_stays n goal targets mid new row plain c.merged_edge.ensures.continues
    (subst (λ (inputs : Vec Edge). IsRowEdge n goal targets mid.board.graph inputs.items row plain) (sym c.row_edge.ensures.keeps.inputs)
    (c.in_ok-plain.ensures.wrong are.f goal targets are.same_inputs are.same_outputs are.are_targets are.asks))))
    c.merged_edge.ensures.image
