use Rattle.std.proofs.Common.{◌≡◌, take}
use Rattle.eco_aiger.specs.Declaring.{with_header}
use Rattle.eco_aiger.proofs.declare.add_header.Given as goal

abbrev pub invariant-loop-name : goal.invariant-loop-name
invariant-loop-name l = l.draft ≡ with_header l.initial.draft (take l.name-index l.names)
