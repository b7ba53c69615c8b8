use Rattle.std.proofs.Common.{◌≡◌, ◌++◌, take}
use Rattle.std.specs.List.{flat_map}
use Rattle.eco_aiger.specs.Defined.{right_side}
use Rattle.eco_aiger.proofs.judge.add_right_sides.Given as goal

abbrev pub invariant-loop-and : goal.invariant-loop-and
invariant-loop-and l = l.list.items ≡ l.initial.list.items ++ flat_map right_side (take l.and-index l.ands)
