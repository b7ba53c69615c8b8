-- Signals that the row doesn't have are unmarked.
use Rattle.std.proofs.Common.{List, true, Bool, ◌≡◌, Some, sym, ◌∙◌, subst}
use Rattle.std.proofs.lemmas.List.{length-map}
use Rattle.eco_gates.specs.declared.gate.NetId.{NetId}
use Rattle.std.specs.List.{slice_get}
use Rattle.eco_meaning.specs.Circuit.{names}
use Rattle.eco_netlist.specs.Netlists.{name_at, names_at}
use Rattle.eco_floor.specs.Rows.{IsSetOf}
use Rattle.eco_tuples.proofs.RowLaws.{steady_beside}
use Rattle.eco_tuples.proofs.rows.steady_row.Goals as goal

pub returns : goal.returns
returns c =
    let f = c.args.netlist.now in
    let signals = names_at (names f) c.args.signals.now in
    let marks = c.in_ok-marks.marks.items in
    let row = c.in_ok-row.row in
    steady_beside f signals c.args.tuple.now marks row (c.in_ok-marks.ensures.count ∙ sym (length-map c.args.signals.now (λ (net : NetId). name_at (names f) net.0))) c.in_ok-marks.ensures.steady
    (subst (λ (bits : List Bool). IsSetOf (λ column. slice_get bits column ≡ Some true) row) c.as_slice.ensures.value c.in_ok-row.ensures)
