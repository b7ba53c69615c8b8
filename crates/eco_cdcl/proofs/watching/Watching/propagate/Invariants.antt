-- What a search keeps; each turn goes on by one literal.
use Rattle.std.proofs.Common.{◌≡◌, ◌-◌, length}
use Rattle.eco_trace.specs.Resolution.{clauses_of}
use Rattle.eco_cdcl.specs.Watching.{IsReady}
use Rattle.eco_cdcl.specs.Steps.{IsLonger}
use Rattle.eco_cdcl.proofs.watching.Watching.propagate.Given as goal

abbrev pub invariant-loop-self : goal.invariant-loop-self
invariant-loop-self l =
    record {
      ready : IsReady (clauses_of l.trace) l.self.trail l.self.done l.self.pairs l.self.lists;
      full : length l.self.pairs ≡ length (clauses_of l.trace);
      longer : IsLonger l.initial.self.trail l.self.trail;
    }

abbrev pub decreases-loop-self : goal.decreases-loop-self
decreases-loop-self l = l.self.trail.vars - l.self.done
