-- One more column, and all of them.
use Rattle.std.proofs.Common.{◌≡◌, ◌∙◌, true, false, Some, get_or, sym, ap, arith}
use Rattle.std.specs.List.{slice_get}
use Rattle.std.proofs.lemmas.Option.{slice_get-get_or, slice_get_within, same_Some}
use Rattle.eco_floor.proofs.Sets.{set_grows, set_is_whole}
use Rattle.eco_floor.proofs.row.columns_set.Goals as goal

pub loop-column-preserved : goal.loop-column-preserved
loop-column-preserved c =
    let bits = c.args.bits.now in
    let k = c.loop-column.column in
    let at = slice_get-get_or bits k false c.loop-column-test.true in
    set_grows (λ column. slice_get bits column ≡ Some true) c.loop-column.columns.items c.push_if.new.columns.items k (get_or bits k false)
    (λ is. at ∙ ap Some is) (λ has. same_Some (get_or bits k false) true (sym at ∙ has)) c.in_ok-push_if.ensures c.loop-column.invariant

pub returns : goal.returns
returns c =
    let bits = c.args.bits.now in
    set_is_whole (λ column. slice_get bits column ≡ Some true) c.loop-column.columns.items c.loop-column.column
    (λ column has. omega (arith, slice_get_within bits column true has, c.loop-column-test.false)) c.loop-column.invariant
