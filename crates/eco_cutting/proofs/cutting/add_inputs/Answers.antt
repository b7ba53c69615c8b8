-- One more net.
use Rattle.std.proofs.Common.{◌≡◌, ◌++◌, ◌∷◌, [], Some, get_or, sym, ◌∙◌, ap, arith}
use Rattle.std.specs.List.{slice_get}
use Rattle.eco_meaning.specs.Circuit.{names}
use Rattle.eco_gates.specs.declared.gate.NetId.{NetId}
use Rattle.eco_netlist.specs.Draft.{Declared}
use Rattle.eco_cutting.proofs.DraftLemmas.{with_inputs, names_more}
use Rattle.eco_cutting.proofs.cutting.add_inputs.Goals as goal

pub loop-net-preserved : goal.loop-net-preserved
loop-net-preserved c =
    let list = names c.args.f.now in
    let nets = c.inputs-nets.result.now in
    let k = c.loop-net.net-index in
    let none : NetId = record { 0 = 0 } in
    let name = c.in_ok-copy.field-0 in
    let at : slice_get list (get_or nets k none).0 ≡ Some name = c.name_of.ensures ∙ ap Some (sym c.in_ok-copy.ensures.same) in
    c.in_ok-add_input.ensures.ok
    ∙ ap (λ (d : Declared). with_inputs d (d.inputs ++ name ∷ [])) c.loop-net.invariant
    ∙ ap (with_inputs c.args.draft.now) (names_more list c.args.draft.now.inputs nets k none name (omega arith) at)
