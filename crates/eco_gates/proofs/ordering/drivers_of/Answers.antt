-- One more gate, and at the end all of them.
use Rattle.std.proofs.Common.{◌≡◌, ◌+◌, ◌∙◌, Some, sym, ap, subst, set, arith}
use Rattle.std.specs.List.{slice_get}
use Rattle.std.proofs.lemmas.Option.{slice_get-get_or}
use Rattle.eco_gates.specs.declared.gate.NetId.{NetId}
use Rattle.eco_gates.specs.GateValue.{GateValue}
use Rattle.eco_gates.proofs.Drivers.{AreDriversTo, drivers_more, drivers_all}
use Rattle.eco_gates.proofs.ordering.drivers_of.Goals as goal

pub loop-number-preserved : goal.loop-number-preserved
loop-number-preserved c =
    let gates = c.args.gates.now in
    let n = c.loop-number.number in
    let g = c.index-gates-number.result in
    let at : slice_get gates n ≡ Some g = slice_get-get_or gates n g (omega arith) ∙ ap Some (sym c.index-gates-number.is) in
    let more = drivers_more c.args.nets gates c.loop-number.drivers.items n g c.requires.within c.requires.once at c.loop-number.invariant in
    subst (λ (out : NetId). AreDriversTo c.args.nets gates (set c.loop-number.drivers.items out.0 (Some n)) (n + 1)) (sym (ap (λ (g : GateValue). g.out) c.gate.view_is)) more

pub returns : goal.returns
returns c = record { drivers = drivers_all _ c.args.gates.now _ c.loop-number.number (omega arith) c.loop-number.invariant }
