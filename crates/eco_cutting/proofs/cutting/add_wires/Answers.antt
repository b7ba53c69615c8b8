-- One more wire.
use Rattle.std.proofs.Common.{◌≡◌, ◌-◌, ◌++◌, ◌∷◌, [], Some, length, take, append_assoc, sym, ◌∙◌, ap, arith}
use Rattle.std.specs.List.{slice_get}
use Rattle.eco_meaning.specs.Circuit.{names}
use Rattle.eco_netlist.specs.Draft.{Declared}
use Rattle.eco_netlist.proofs.NetNames.{wires_more}
use Rattle.eco_cutting.proofs.DraftLemmas.{with_wires}
use Rattle.eco_cutting.proofs.cutting.add_wires.Goals as goal

pub loop-number-preserved : goal.loop-number-preserved
loop-number-preserved c =
    let f = c.args.f.now in
    let draft = c.args.draft.now in
    let number = c.loop-number.number in
    let name = c.in_ok-copy.field-0 in
    let (from, is) = c.loop-number.invariant in
    let at : slice_get (names f) number ≡ Some name = c.name_of.ensures ∙ ap Some (sym c.in_ok-copy.ensures.same) in (
      omega (arith, from),
      c.in_ok-add_wire.ensures.ok
          ∙ ap (λ (d : Declared). with_wires d (d.wires ++ name ∷ [])) is
          ∙ ap (with_wires draft) (append_assoc draft.wires (take (number - length f.ports) f.wires) (name ∷ [])
          ∙ ap (λ rest. draft.wires ++ rest) (sym (wires_more f.ports f.wires number name from at))),
    )
