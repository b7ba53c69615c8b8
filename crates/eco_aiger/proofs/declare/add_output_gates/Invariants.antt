use Rattle.std.proofs.Common.{◌≡◌, length, take}
use Rattle.eco_aiger.specs.Meaning.{output_gates}
use Rattle.eco_aiger.specs.Declaring.{with_gates}
use Rattle.eco_aiger.proofs.declare.add_output_gates.Given as goal

abbrev pub invariant-loop-name : goal.invariant-loop-name
invariant-loop-name l = l.draft ≡ with_gates l.initial.draft (output_gates l.names (take (length l.yielded) l.outputs) (take (length l.yielded) l.literals))
