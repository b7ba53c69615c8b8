-- The search goes on, and each turn has learnt one clause.
use Rattle.std.proofs.Common.{◌≡◌}
use Rattle.eco_trace.specs.Clauses.{Clauses}
use Rattle.eco_trace.specs.Verdicts.{IsSpent}
use Rattle.eco_cdcl.specs.Steps.{IsOn}
use Rattle.eco_cdcl.proofs.search.Search.turns.Given as goal

abbrev pub invariant-loop-learnt : goal.invariant-loop-learnt
invariant-loop-learnt g l =
    let w = l.self.watching in
    record {
      on : IsOn l.trace w.trail w.done w.pairs w.lists l.self.learner.vars;
      vars : w.trail.vars ≡ l.initial.self.watching.trail.vars;
      spent : (cnf : Clauses) → IsSpent cnf 0 l.initial.trace → IsSpent cnf l._learnt l.trace;
    }
