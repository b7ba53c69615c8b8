-- One more input, and at the end all of them.
use Rattle.std.proofs.Common.{◌≡◌, ◌<◌, length, get_or, sym, ◌∙◌, ap, arith}
use Rattle.std.proofs.lemmas.List.{length-map}
use Rattle.std.proofs.lemmas.Option.{slice_get-get_or}
use Rattle.eco_meaning.specs.Circuit.{names}
use Rattle.eco_gates.specs.declared.gate.NetId.{NetId}
use Rattle.eco_netlist.specs.Netlists.{name_at}
use Rattle.eco_aig.specs.Edges.{plain}
use Rattle.eco_compile.proofs.OpenNets.{bound_more}
use Rattle.eco_compile.proofs.ByName.{inputs_apart, table_of_inputs}
use Rattle.eco_compile.proofs.bound.input_table.Goals as goal

pub loop-place-preserved : goal.loop-place-preserved
loop-place-preserved c =
    let f = c.args.f.now in
    let nets = c.inputs-net-items.result.now in
    let k = c.loop-place.place in
    let none : NetId = record { 0 = 0 } in
    let inputs = c.args.inputs.now in
    let count : length nets ≡ length inputs = sym (length-map nets (λ (net : NetId). name_at (names f) net.0)) ∙ ap length c.inputs-net-items.ensures.named ∙ sym c.requires.count in
    let room : k < length inputs = omega (arith, count, c.loop-place-test.true) in
    bound_more c.args.aig.now nets inputs (length (names f)) k c.loop-place.table.items (get_or nets k none) (get_or inputs k (plain 0)) (inputs_apart f nets c.nets.ensures.checked c.inputs-net-items.ensures.named) (slice_get-get_or nets k none c.loop-place-test.true) (slice_get-get_or inputs k (plain 0) room) (c.inputs-net-items.ensures.within k none c.loop-place-test.true) (c.requires.edges k (plain 0) room) c.loop-place.invariant

pub returns-clause-inputs : goal.returns-clause-inputs
returns-clause-inputs c =
    table_of_inputs c.args.f.now c.args.aig.now c.inputs-net-items.result.now c.args.inputs.now c.loop-place.table.items c.loop-place.place c.nets.ensures.checked c.inputs-net-items.ensures.named c.inputs-net-items.ensures.within c.loop-place-test.false c.loop-place.invariant
