use Rattle.std.proofs.Common.{◌≡◌, length}
use Rattle.eco_vread.specs.Views.{identifier_of, identifiers_of}
use Rattle.eco_vread.specs.Trees.{left}
use Rattle.eco_vread.specs.Fronts.{repeated}
use Rattle.eco_vread.specs.Parse.{connection_at, after_output}
use Rattle.eco_vread.proofs.Repeats.{behind}
use Rattle.eco_vread.proofs.gates.with_one_input.Given as goal

-- what is read, and then what the rest of the outputs and the input are, are all of them
abbrev pub invariant-loop-outputs : goal.invariant-loop-outputs
invariant-loop-outputs l =
    behind (identifiers_of l.outputs.items) (repeated connection_at (left l.here))
    ≡ after_output (identifier_of l.first) (repeated connection_at (left l.at))

abbrev pub decreases-loop-outputs : goal.decreases-loop-outputs
decreases-loop-outputs l = length (left l.here)
