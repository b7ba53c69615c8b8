use Rattle.std.proofs.Common.{◌≡◌, ◌++◌, map, take}
use Rattle.eco_aiger.specs.Defined.{variable_of}
use Rattle.eco_aiger.proofs.judge.add_left_sides.Given as goal

abbrev pub invariant-loop-and : goal.invariant-loop-and
invariant-loop-and l = l.list.items ≡ l.initial.list.items ++ map (λ a. variable_of a.left) (take l.and-index l.ands)
