-- The cuts so far.
use Rattle.std.proofs.Common.{◌≡◌, ◌++◌, map, filter, take}
use Rattle.eco_meaning.specs.Names.{has}
use Rattle.eco_cutting.specs.Cuts.{Cut}
use Rattle.eco_cutting.proofs.CutNames.{old_of}
use Rattle.eco_cutting.proofs.cutting.add_olds.Given as goal

abbrev pub invariant-loop-cut : goal.invariant-loop-cut
invariant-loop-cut l =
    l.draft ≡ record l.fn.draft { wires = l.fn.draft.wires ++ map old_of (filter (λ (c : Cut). has l.f.outputs c.net) (take l.cut-index l.cuts)) }
