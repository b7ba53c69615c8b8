-- The wires so far.
use Rattle.std.proofs.Common.{◌≡◌, ◌≤◌, ◌-◌, ◌++◌, length, take}
use Rattle.eco_cutting.proofs.cutting.add_wires.Given as goal

abbrev pub invariant-loop-number : goal.invariant-loop-number
invariant-loop-number l =
    (length l.f.ports ≤ l.number)
    × (l.draft ≡ record l.fn.draft { wires = l.fn.draft.wires ++ take (l.number - length l.f.ports) l.f.wires })
