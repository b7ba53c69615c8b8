-- The bit of one more net.
use Rattle.std.proofs.Common.{◌++◌, ◌∷◌, [], take, map, sym, ◌∙◌, ap, arith, Bool, List}
use Rattle.std.proofs.lemmas.List.{map-append}
use Rattle.eco_meaning.specs.Circuit.{Values, names}
use Rattle.eco_gates.specs.declared.gate.NetId.{NetId}
use Rattle.eco_netlist.specs.Netlists.{bit_of, names_at}
use Rattle.eco_netlist.proofs.NetNames.{names_at_more}
use Rattle.eco_change.proofs.reading.values_of.Goals as goal

pub loop-net-preserved : goal.loop-net-preserved
loop-net-preserved c =
    let list = names c.args.netlist.now in
    let nets = c.args.nets.now in
    let k = c.loop-net.net-index in
    let none : NetId = record { 0 = 0 } in
    let v : Values = bit_of (names c.args.other.now) c.args.values.now in
    let name = c.name_of.result.now in
    c.in_ok-push.ensures.items
    ∙ ap (λ (b : Bool). c.loop-net.bits.items ++ b ∷ []) c.value_of.ensures
    ∙ ap (λ (l : List Bool). l ++ v name ∷ []) c.loop-net.invariant
    ∙ sym (map-append v (names_at list (take k nets)) (name ∷ []))
    ∙ ap (map v) (sym (names_at_more list nets k none name (omega arith) c.name_of.ensures))
