-- What was listed stays, and the new row is known of by its edge.
use Rattle.std.proofs.Common.{sym, ◌∙◌, subst}
use Rattle.eco_pose.specs.Boards.{IsRowEdge}
use Rattle.eco_desk.specs.Boards.{AreKnown}
use Rattle.eco_desk.proofs.SweptLaws.{all_stay_known, known_stays, known_none, known_more}
use Rattle.eco_desk.proofs.known_rows.new_edge.Goals as goal

pub row_edge-requires-clause-known : goal.row_edge-requires-clause-known
row_edge-requires-clause-known c =
    let (goal, targets, are) = c.requires.known in
    (goal, targets, known_none c.args.netlist.now goal targets c.args.swept.now.board c.args.known.now.items are)

pub returns-in_err-edge-clause-known : goal.returns-in_err-edge-clause-known
returns-in_err-edge-clause-known c = all_stay_known c.args.netlist.now c.args.swept.now c.row_edge.new.self c.args.known.now.items c.row_edge.ensures.continues

pub returns-in_err-from_slice-clause-known : goal.returns-in_err-from_slice-clause-known
returns-in_err-from_slice-clause-known c = all_stay_known c.args.netlist.now c.args.swept.now c.row_edge.new.self c.args.known.now.items c.row_edge.ensures.continues

pub returns-in_err-push-clause-known : goal.returns-in_err-push-clause-known
returns-in_err-push-clause-known c goal targets are =
    let n = c.args.netlist.now in
    let new = c.row_edge.new.self in
    subst (AreKnown n goal targets new.board) (sym c.in_err-push.ensures.items) (known_stays n goal targets c.args.swept.now new c.args.known.now.items c.row_edge.ensures.continues are)

pub returns-clause-known : goal.returns-clause-known
returns-clause-known c goal targets are =
    let n = c.args.netlist.now in
    let old = c.args.swept.now in
    let new = c.row_edge.new.self in
    let known = c.args.known.now.items in
    let edge = c.in_ok-edge.edge in
    known_more n goal targets new.board known c.push.new.self.items (record { row = c.of-row.result; edge = edge })
    (known_stays n goal targets old new known c.row_edge.ensures.continues are)
    (subst (λ row. IsRowEdge n goal targets new.board.graph new.board.inputs.items row edge) (sym (c.of-row.ensures ∙ c.in_ok-from_slice.ensures.items))
    (c.in_ok-edge.ensures.edge goal targets (known_none n goal targets old.board known are))) c.in_ok-push.ensures.items

pub returns-clause-edge : goal.returns-clause-edge
returns-clause-edge c goal targets are =
    let n = c.args.netlist.now in
    c.in_ok-edge.ensures.edge goal targets (known_none n goal targets c.args.swept.now.board c.args.known.now.items are)
