-- The marks after the inputs so far.
use Rattle.std.proofs.Common.{◌≡◌, length, take}
use Rattle.eco_meaning.specs.Circuit.{names}
use Rattle.eco_netlist.specs.Netlists.{names_at}
use Rattle.eco_tuples.specs.Graphs.{IsTargetGraph, Stretches}
use Rattle.eco_tuples.specs.Rows.{AreSharedUnless}
use Rattle.eco_tuples.proofs.rows.marks_beside.Given as goal

abbrev pub invariant-loop-input : goal.invariant-loop-input
invariant-loop-input l =
    (length l.marks.items ≡ length l.signals)
    × AreSharedUnless l.netlist (names_at (names l.netlist) l.signals) l.targets (take l.input-index l.rest) l.edges l.marks.items
    × Stretches l.initial.targets l.targets × IsTargetGraph l.netlist l.targets
