use Rattle.std.proofs.Common.{length, sym, refl}
use Rattle.std.proofs.lemmas.List.{map-append, take_more}
use Rattle.eco_gates.specs.Gates.{IsGateWithin}
use Rattle.eco_netlist.specs.Numbering.{gate_nets, HasNets}
use Rattle.eco_netlist.proofs.NumberLemmas.{All_item}
use Rattle.eco_netlist.proofs.PlacedLemmas.{All_push}
use Rattle.eco_netlist.proofs.placing.placed_gates.Goals as goal

pub placed_gate-requires-clause-has : goal.placed_gate-requires-clause-has
placed_gate-requires-clause-has c =
    All_item (λ gate. HasNets c.args.numbering.now.nets (gate_nets gate)) c.args.gates.now c.loop-gate.gate-index c.gate-item.result
    c.requires.has c.loop-gate-test.true c.gate-item.is

pub loop-gate-preserved : goal.loop-gate-preserved
loop-gate-preserved c = record {
  placed = rw (c.in_ok-push.ensures.items, map-append, take_more c.args.gates.now c.loop-gate.gate-index c.gate-item.result c.loop-gate-test.true, c.loop-gate.invariant.placed, c.in_ok-placed_gate.ensures.placed, sym c.gate-item.is) refl;
  within = rw c.in_ok-push.ensures.items
      (All_push (IsGateWithin (length c.args.numbering.now.nets)) c.loop-gate.placed.items c.in_ok-placed_gate.field-0 c.loop-gate.invariant.within c.in_ok-placed_gate.ensures.within);
}
