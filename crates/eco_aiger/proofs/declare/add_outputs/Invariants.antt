use Rattle.std.proofs.Common.{◌≡◌, take}
use Rattle.eco_aiger.specs.Declaring.{with_outputs}
use Rattle.eco_aiger.proofs.declare.add_outputs.Given as goal

abbrev pub invariant-loop-name : goal.invariant-loop-name
invariant-loop-name l = l.draft ≡ with_outputs l.initial.draft (take l.name-index l.names)
