use Rattle.std.proofs.Common.{◌≡◌, take}
use Rattle.eco_aiger.specs.Declaring.{with_inputs}
use Rattle.eco_aiger.proofs.declare.add_inputs.Given as goal

abbrev pub invariant-loop-name : goal.invariant-loop-name
invariant-loop-name l = l.draft ≡ with_inputs l.initial.draft (take l.name-index l.names)
