use Rattle.std.proofs.Common.{◌≡◌, [], take}
use Rattle.std.specs.Prelude.{nat_eq}
use Rattle.indexmap.specs.IndexSet.{insert_all}
use Rattle.eco_aiger.proofs.sets.set_of.Given as goal

abbrev pub invariant-loop-number : goal.invariant-loop-number
invariant-loop-number l = l.set.keys ≡ insert_all nat_eq [] (take l.number-index l.list)
