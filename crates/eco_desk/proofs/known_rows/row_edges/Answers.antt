-- No row at first, one more, and all of them.
use Rattle.std.proofs.Common.{◌+◌, List, Bool, length, get_or, sym, ◌∙◌, subst, arith}
use Rattle.std.proofs.lemmas.Option.{slice_get-get_or}
use Rattle.std.proofs.lemmas.List.{take_all}
use Rattle.eco_compile.specs.Compiled.{HasOpenNets}
use Rattle.eco_pose.specs.Boards.{AreRowEdges, IsRowEdge}
use Rattle.eco_desk.proofs.SweptLaws.{RowsAreFound, found_none, found_more, continues_both}
use Rattle.eco_desk.proofs.known_rows.row_edges.Goals as goal

pub loop-place-init : goal.loop-place-init
loop-place-init c =
    let n = c.args.netlist.now in
    let swept = c.args.swept.now in
    let known = c.args.known.now.items in
    subst (RowsAreFound n swept known swept known c.args.rows.now 0) (sym c.in_ok-edges.ensures.items) (found_none n swept known c.args.rows.now c.requires.merged)

pub row_edge-requires-clause-known : goal.row_edge-requires-clause-known
row_edge-requires-clause-known c =
    let (goal, targets, are) = c.requires.known in
    (goal, targets, c.loop-place.invariant.stay goal targets are)

pub row_edge-requires-clause-count : goal.row_edge-requires-clause-count
row_edge-requires-clause-count c =
    let n = c.args.netlist.now in
    subst (λ (bits : List Bool). HasOpenNets n (length n.inputs + length bits)) (sym (c.as_slice.ensures ∙ c.index-rows-place.is))
    (c.requires.count c.loop-place.place c.index-rows-place.result c.loop-place-test.true)

pub row_edge-requires-clause-merged : goal.row_edge-requires-clause-merged
row_edge-requires-clause-merged c = c.loop-place.invariant.continues.merged

pub returns-in_err-row_edge-clause-continues : goal.returns-in_err-row_edge-clause-continues
returns-in_err-row_edge-clause-continues c = continues_both c.args.swept.now c.loop-place.swept c.row_edge.new.swept c.loop-place.invariant.continues c.row_edge.ensures.continues

pub returns-in_err-row_edge-clause-known : goal.returns-in_err-row_edge-clause-known
returns-in_err-row_edge-clause-known c goal targets are = c.row_edge.ensures.known goal targets (c.loop-place.invariant.stay goal targets are)

pub returns-in_err-push-clause-continues : goal.returns-in_err-push-clause-continues
returns-in_err-push-clause-continues c = continues_both c.args.swept.now c.loop-place.swept c.row_edge.new.swept c.loop-place.invariant.continues c.row_edge.ensures.continues

pub returns-in_err-push-clause-known : goal.returns-in_err-push-clause-known
returns-in_err-push-clause-known c goal targets are = c.row_edge.ensures.known goal targets (c.loop-place.invariant.stay goal targets are)

pub loop-place-preserved : goal.loop-place-preserved
loop-place-preserved c =
    let n = c.args.netlist.now in
    let k = c.loop-place.place in
    let rows = c.args.rows.now in
    let row = get_or rows k c.index-rows-place.result in
    let new = c.row_edge.new.swept in
    let edge = c.in_ok-row_edge.field-0 in
    found_more n c.args.swept.now c.args.known.now.items c.loop-place.swept c.loop-place.known.items new c.row_edge.new.known.items rows k c.loop-place.edges.items c.push.new.self.items row edge
    c.loop-place.invariant (slice_get-get_or rows k c.index-rows-place.result c.loop-place-test.true) c.row_edge.ensures.continues c.row_edge.ensures.known
    (λ goal targets are.
    subst (λ bits. IsRowEdge n goal targets new.board.graph new.board.inputs.items bits edge) (c.as_slice.ensures ∙ c.index-rows-place.is) (c.in_ok-row_edge.ensures.edge goal targets are))
    c.in_ok-push.ensures.items

pub returns-clause-continues : goal.returns-clause-continues
returns-clause-continues c = c.loop-place.invariant.continues

pub returns-clause-known : goal.returns-clause-known
returns-clause-known c = c.loop-place.invariant.stay

pub returns-clause-edges : goal.returns-clause-edges
returns-clause-edges c goal targets are =
    let swept = c.loop-place.swept in
    subst (λ rows. AreRowEdges c.args.netlist.now goal targets swept.board.graph swept.board.inputs.items rows c.loop-place.edges.items) (take_all c.loop-place.place c.args.rows.now (omega arith))
    (c.loop-place.invariant.found goal targets are)
