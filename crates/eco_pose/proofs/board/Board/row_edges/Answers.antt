-- No row at first, one more, and all of them.
use Rattle.std.proofs.Common.{◌≡◌, suc, ◌+◌, ◌*◌, length, arith, get_or, sym, ◌∙◌, subst}
use Rattle.std.proofs.lemmas.Option.{slice_get-get_or}
use Rattle.std.proofs.lemmas.List.{take_all}
use Rattle.std.specs.Global.{Vec}
use Rattle.eco_aig.specs.declared.edge.Edge.{Edge}
use Rattle.eco_aig.specs.Graph.{Grows}
use Rattle.eco_compile.specs.Compiled.{HasOpenNets}
use Rattle.eco_pose.specs.Boards.{AreRowEdges, row_nodes}
use Rattle.eco_pose.proofs.RowLaws.{RowsHaveEdges, TellsRow, rows_none, rows_more, rows_few, laid_out_stays, keeps_both}
use Rattle.eco_pose.proofs.board.Board.row_edges.Goals as goal

pub loop-row-init : goal.loop-row-init
loop-row-init c =
    subst (RowsHaveEdges c.args.netlist.now c.args.self.now c.args.self.now c.args.rows.now 0) (sym c.in_ok-edges.ensures.items) (rows_none c.args.netlist.now c.args.self.now c.args.rows.now)

pub row_edge-requires-clause-laid_out : goal.row_edge-requires-clause-laid_out
row_edge-requires-clause-laid_out c =
    laid_out_stays c.args.netlist.now c.args.self.now c.loop-row.self (c.loop-row.row-index * row_nodes c.args.netlist.now) c.loop-row.invariant.keeps c.loop-row.invariant.grows c.requires.laid_out

pub row_edge-requires-clause-count : goal.row_edge-requires-clause-count
row_edge-requires-clause-count c =
    let n = c.args.netlist.now in
    let row = c.as_slice.result.now in
    subst (λ (inputs : Vec Edge). HasOpenNets n (length inputs.items + length row)) (sym c.loop-row.invariant.keeps.inputs)
    (subst (λ bits. HasOpenNets n (length c.args.self.now.inputs.items + length bits)) (sym (c.as_slice.ensures ∙ c.row-item.is)) (c.requires.count c.loop-row.row-index c.row-item.result (omega arith)))

pub returns-in_err-row_edge-clause-keeps : goal.returns-in_err-row_edge-clause-keeps
returns-in_err-row_edge-clause-keeps c =
    keeps_both c.args.self.now c.loop-row.self c.row_edge.new.self c.loop-row.invariant.keeps c.row_edge.ensures.keeps

pub returns-in_err-row_edge-clause-grows : goal.returns-in_err-row_edge-clause-grows
returns-in_err-row_edge-clause-grows c =
    rows_few c.args.netlist.now c.args.self.now c.loop-row.self c.row_edge.new.self c.args.rows.now c.loop-row.row-index c.loop-row.edges.items c.loop-row.invariant (omega arith) c.row_edge.ensures.grows

pub returns-in_err-push-clause-keeps : goal.returns-in_err-push-clause-keeps
returns-in_err-push-clause-keeps c =
    keeps_both c.args.self.now c.loop-row.self c.row_edge.new.self c.loop-row.invariant.keeps c.row_edge.ensures.keeps

pub returns-in_err-push-clause-grows : goal.returns-in_err-push-clause-grows
returns-in_err-push-clause-grows c =
    rows_few c.args.netlist.now c.args.self.now c.loop-row.self c.row_edge.new.self c.args.rows.now c.loop-row.row-index c.loop-row.edges.items c.loop-row.invariant (omega arith) c.row_edge.ensures.grows

pub loop-row-preserved : goal.loop-row-preserved
loop-row-preserved c =
    let n = c.args.netlist.now in
    let k = c.loop-row.row-index in
    let rows = c.args.rows.now in
    let row = get_or rows k c.row-item.result in
    let next : suc k ≡ k + 1 = omega arith in
    subst (λ m. RowsHaveEdges n c.args.self.now c.row_edge.new.self rows m c.push.new.self.items) next
    (rows_more n c.args.self.now c.loop-row.self c.row_edge.new.self rows k c.loop-row.edges.items c.push.new.self.items row c.in_ok-row_edge.field-0
    c.loop-row.invariant (slice_get-get_or rows k c.row-item.result (omega arith)) c.row_edge.ensures.keeps c.row_edge.ensures.grows c.in_ok-row_edge.ensures.edge
    (subst (λ bits. TellsRow n c.loop-row.self c.row_edge.new.self bits c.in_ok-row_edge.field-0) (c.as_slice.ensures ∙ c.row-item.is) c.in_ok-row_edge.ensures.wrong) c.in_ok-push.ensures.items)

pub returns-clause-edges : goal.returns-clause-edges
returns-clause-edges c = c.loop-row.invariant.edges_are

pub returns-clause-wrong : goal.returns-clause-wrong
returns-clause-wrong c f goal targets same_inputs same_outputs are asks =
    subst (λ rows. AreRowEdges c.args.netlist.now goal targets c.loop-row.self.graph c.args.self.now.inputs.items rows c.loop-row.edges.items) (take_all c.loop-row.row-index c.args.rows.now (omega arith))
    (c.loop-row.invariant.told f goal targets same_inputs same_outputs are asks)

pub returns-clause-keeps : goal.returns-clause-keeps
returns-clause-keeps c = c.loop-row.invariant.keeps

pub returns-clause-grows : goal.returns-clause-grows
returns-clause-grows c =
    subst (λ m. Grows c.args.self.now.graph c.loop-row.self.graph (m * row_nodes c.args.netlist.now)) (omega arith) c.loop-row.invariant.grows
