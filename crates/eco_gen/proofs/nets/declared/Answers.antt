use Rattle.std.proofs.Common.{refl}
use Rattle.eco_gen.specs.Drawn.{drawn_netlist}
use Rattle.eco_gen.proofs.nets.declared.Goals as goal

pub returns : goal.returns
unfolding drawn_netlist
returns c =
    rw (c.in_ok-add_port_gates.ensures, c.in_ok-add_gates.ensures, c.in_ok-add_wires.ensures, c.in_ok-add_outputs.ensures, c.in_ok-add_inputs.ensures, c.new-draft.ensures.empty, c.in_ok-name_from.ensures, c.as_slice-unread.ensures.value, c.in_ok-unread.ensures)
    refl
