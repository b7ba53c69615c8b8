-- Nets have only gone to the inputs.
use Rattle.std.proofs.Common.{List}
use Rattle.eco_gates.specs.declared.gate.NetId.{NetId}
use Rattle.eco_locate.specs.Covers.{IsCover}
use Rattle.eco_locate.proofs.covering.cover_all.Given as goal

abbrev pub invariant-loop-one : goal.invariant-loop-one
invariant-loop-one l =
    (all : List NetId) → IsCover l.change.old l.change.goal all l.initial.cover → IsCover l.change.old l.change.goal all l.cover
