-- The clauses so far watch, and nothing was propagated.
use Rattle.std.proofs.Common.{◌≡◌, [], length}
use Rattle.eco_trace.specs.Resolution.{clauses_of}
use Rattle.eco_cdcl.specs.Watching.{IsReady}
use Rattle.eco_cdcl.proofs.search.Search.load.Given as goal

abbrev pub invariant-loop-number : goal.invariant-loop-number
invariant-loop-number l =
    let w = l.self.watching in
    record {
      ready : IsReady (clauses_of l.trace) w.trail w.done w.pairs w.lists;
      done : w.done ≡ 0;
      marks : w.trail.marks ≡ [];
      vars : w.trail.vars ≡ l.initial.self.watching.trail.vars;
      room : l.self.learner.vars ≡ l.initial.self.learner.vars;
      count : length w.pairs ≡ l.number;
    }
