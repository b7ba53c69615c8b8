use Rattle.std.proofs.Common.{◌≡◌, ◌++◌}
use Rattle.eco_splice.specs.GraphPatch.{wires_from}
use Rattle.eco_splice.proofs.wires.add_wires.Given as goal

abbrev pub invariant-loop-before : goal.invariant-loop-before
invariant-loop-before l = l.draft ≡ record l.fn.draft { wires = l.fn.draft.wires ++ wires_from l.prefix 1 l.before }
