use Rattle.std.proofs.Common.{◌≡◌, false, take}
use Rattle.std.specs.Prelude.{replicate}
use Rattle.eco_aig.specs.Marking.{with_marks}
use Rattle.eco_aig.proofs.reach.root_marks.Given as goal

abbrev pub invariant-loop-root : goal.invariant-loop-root
invariant-loop-root l = l.marks.items ≡ with_marks (replicate l.nodes false) (take l.root-index l.roots)
