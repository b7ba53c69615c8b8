use Rattle.std.proofs.Common.{◌≡◌, take}
use Rattle.eco_vread.specs.Declaring.{with_gates, gates_of}
use Rattle.eco_vread.proofs.declare.add_gates.Given as goal

abbrev pub invariant-loop-output : goal.invariant-loop-output
invariant-loop-output l =
    l.draft ≡ with_gates l.initial.draft (gates_of l.kind (take l.output-index l.outputs) l.inputs)
