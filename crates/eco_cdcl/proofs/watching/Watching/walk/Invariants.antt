-- The walk has come to this place.
use Rattle.std.proofs.Common.{◌≡◌, ◌-◌, length}
use Rattle.eco_trace.specs.Resolution.{clauses_of}
use Rattle.eco_cdcl.specs.Entries.{list_of}
use Rattle.eco_cdcl.specs.Watching.{IsWalking}
use Rattle.eco_cdcl.specs.Steps.{IsLonger}
use Rattle.eco_cdcl.proofs.watching.Watching.walk.Given as goal

abbrev pub invariant-loop-at : goal.invariant-loop-at
invariant-loop-at l =
    record {
      walking : IsWalking (clauses_of l.trace) l.self.trail l.self.done l.self.pairs l.self.lists l.lit l.at;
      longer : IsLonger l.initial.self.trail l.self.trail;
      done : l.self.done ≡ l.initial.self.done;
    }

abbrev pub decreases-loop-at : goal.decreases-loop-at
decreases-loop-at l = length (list_of l.self.lists l.lit) - l.at
