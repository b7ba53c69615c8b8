-- The cuts so far.
use Rattle.std.proofs.Common.{◌≡◌, ◌++◌, map, filter, take}
use Rattle.eco_meaning.specs.Names.{has}
use Rattle.eco_cutting.specs.Cuts.{Cut, port_gate}
use Rattle.eco_cutting.proofs.cutting.add_port_gates.Given as goal

abbrev pub invariant-loop-cut : goal.invariant-loop-cut
invariant-loop-cut l =
    l.draft ≡ record l.fn.draft { gates = l.fn.draft.gates ++ map port_gate (filter (λ (c : Cut). has l.f.outputs c.net) (take l.cut-index l.cuts)) }
