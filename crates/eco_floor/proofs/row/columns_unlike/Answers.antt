-- One more column, and all of them.
use Rattle.std.proofs.Common.{◌≢◌, inl, inr, ◌<◌, ◌∙◌, false, length, get_or, sym, arith}
use Rattle.std.specs.List.{slice_get}
use Rattle.std.proofs.Math.Bool.{beq, not}
use Rattle.std.proofs.lemmas.Bool.{cases_lt}
use Rattle.std.proofs.lemmas.Option.{slice_get_past}
use Rattle.eco_floor.proofs.Sets.{bits_differ, differ_bits, set_grows, set_is_whole}
use Rattle.eco_floor.proofs.row.columns_unlike.Goals as goal

pub loop-column-preserved : goal.loop-column-preserved
loop-column-preserved c =
    let one = c.args.one.now in
    let zero = c.args.zero.now in
    let k = c.loop-column.column in
    let within : k < length one = c.loop-column-test.true in
    let zero_in : k < length zero = omega (arith, within, c.requires) in
    set_grows (λ column. slice_get one column ≢ slice_get zero column) c.loop-column.columns.items c.push_if.new.columns.items k (not (beq (get_or one k false) (get_or zero k false)))
    (bits_differ one zero k within zero_in) (differ_bits one zero k within zero_in) c.in_ok-push_if.ensures c.loop-column.invariant

pub returns : goal.returns
returns c =
    let one = c.args.one.now in
    let zero = c.args.zero.now in
    set_is_whole (λ column. slice_get one column ≢ slice_get zero column) c.loop-column.columns.items c.loop-column.column
    (λ column has. elim (cases_lt column c.loop-column.column) [
      | inl less ↦ less
      | inr most ↦
          absurd (has (slice_get_past one column (omega (arith, most, c.loop-column-test.false))
          ∙ sym (slice_get_past zero column (omega (arith, most, c.loop-column-test.false, c.requires)))))
    ]) c.loop-column.invariant
