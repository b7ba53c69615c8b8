-- One more row is read.
use Rattle.std.proofs.Common.{◌+◌, take, sym, subst}
use Rattle.std.specs.List.{AllZip}
use Rattle.std.proofs.lemmas.List.Elements.{all_zip_more}
use Rattle.eco_base.specs.Fronts.{IsColumnRow}
use Rattle.eco_base.proofs.StateLaws.{read_as}
use Rattle.eco_base.proofs.state.rows_of.Goals as goal

pub loop-input-preserved : goal.loop-input-preserved
loop-input-preserved c =
    let stage = c.args.stage.now in
    let inputs = c.args.inputs.now in
    let input = c.input-item.result in
    subst (AllZip (IsColumnRow stage) (take (c.loop-input.input-index + 1) inputs)) (sym c.in_ok-push.ensures.items)
    (all_zip_more (IsColumnRow stage) inputs c.loop-input.rows.items c.loop-input.input-index input c.of.result c.loop-input-test.true c.input-item.is c.loop-input.invariant
    (read_as stage c.as_slice-in-loop-input.result.now stage.columns.items c.as_slice.result.now input c.in_ok-row.row.items c.of.result c.as_slice-in-loop-input.ensures.value c.as_slice.ensures c.of.ensures c.in_ok-row.ensures))
