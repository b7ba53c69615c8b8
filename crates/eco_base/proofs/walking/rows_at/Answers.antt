-- One more row is read.
use Rattle.std.proofs.Common.{◌+◌, List, Bool, take, sym, subst}
use Rattle.std.specs.List.{AllZip}
use Rattle.std.proofs.lemmas.List.Elements.{all_zip_more}
use Rattle.eco_base.specs.Walks.{IsRowOf}
use Rattle.eco_base.proofs.walking.rows_at.Goals as goal

pub loop-input-preserved : goal.loop-input-preserved
loop-input-preserved c =
    let Is = IsRowOf c.args.n.now c.args.nets.now in
    let inputs = c.args.inputs.now in
    let input = c.input-item.result in
    subst (AllZip Is (take (c.loop-input.input-index + 1) inputs)) (sym c.in_ok-push.ensures.items)
    (all_zip_more Is inputs c.loop-input.rows.items c.loop-input.input-index input c.of.result c.loop-input-test.true c.input-item.is c.loop-input.invariant
    (subst (Is input) (sym c.of.ensures) (subst (λ (x : List Bool). Is x c.in_ok-row.row.items) c.as_slice.ensures c.in_ok-row.ensures)))
