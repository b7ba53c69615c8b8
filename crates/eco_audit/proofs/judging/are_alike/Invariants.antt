-- The signals so far are alike.
use Rattle.std.proofs.Common.{take}
use Rattle.std.specs.List.{All}
use Rattle.eco_meaning.specs.Circuit.{names}
use Rattle.eco_netlist.specs.Netlists.{bit_of}
use Rattle.eco_audit.specs.Judging.{AgreeUnless}
use Rattle.eco_audit.proofs.judging.are_alike.Given as goal

abbrev pub invariant-loop-reported : goal.invariant-loop-reported
invariant-loop-reported l =
    All (λ b. AgreeUnless l.name (bit_of (names l.out) l.ones) (bit_of (names l.out) l.zeros) b.now.signal) (take l.reported-index l.base)
