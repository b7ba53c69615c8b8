use Rattle.std.proofs.Common.{◌≡◌, map, take}
use Rattle.eco_aiger.specs.Defined.{variable_of}
use Rattle.eco_aiger.proofs.judge.variables.Given as goal

abbrev pub invariant-loop-literal : goal.invariant-loop-literal
invariant-loop-literal l = l.list.items ≡ map variable_of (take l.literal-index l.literals)
