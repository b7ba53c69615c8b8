-- The search goes on, and each step decides one more variable, or begins again once more.
use Rattle.std.proofs.Common.{◌≡◌, ◌+◌, ◌-◌, ◌*◌, length}
use Rattle.eco_cdcl.specs.Steps.{IsOn}
use Rattle.eco_cdcl.proofs.search.Search.run.Given as goal

abbrev pub invariant-steps : goal.invariant-steps
invariant-steps g l =
    let w = l.self.watching in
    record {
      on : IsOn l.trace w.trail w.done w.pairs w.lists l.self.learner.vars;
      vars : w.trail.vars ≡ l.initial.self.watching.trail.vars;
    }

abbrev pub decreases-steps : goal.decreases-steps
decreases-steps g l =
    let k = l.self.watching.trail in
    l.restarts * (k.vars + 1) + (k.vars - length k.lits)
