use Rattle.std.proofs.Common.{◌+◌, append_assoc, arith}
use Rattle.std.proofs.lemmas.List.FromFn.{map-range_with_len_more}
use Rattle.eco_gen.specs.declared.TheConstants.{INPUTS}
use Rattle.eco_gen.specs.Drawn.{signal_name}
use Rattle.eco_gen.proofs.nets.add_wires.Goals as goal

pub loop-gate-preserved : goal.loop-gate-preserved
loop-gate-preserved c =
    let more = map-range_with_len_more (λ j. signal_name c.args.size c.args.targets (INPUTS + j)) 0 c.loop-gate.gate c.loop-gate.gate (omega arith) in
    rw (c.in_ok-add_wire.ensures.ok, c.loop-gate.invariant, c.in_ok-signal_name.ensures, more) (simp append_assoc)
