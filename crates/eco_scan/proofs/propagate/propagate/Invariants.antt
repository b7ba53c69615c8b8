-- The trail fits the clauses.
use Rattle.std.proofs.Common.{◌≡◌, ◌-◌, length}
use Rattle.eco_trace.specs.Resolution.{clauses_of}
use Rattle.eco_scan.specs.Scanning.{IsReady}
use Rattle.eco_scan.proofs.propagate.propagate.Given as goal

abbrev pub invariant-turns : goal.invariant-turns
invariant-turns l = IsReady (clauses_of l.trace) l.trail × (l.trail.vars ≡ l.initial.trail.vars)

abbrev pub decreases-turns : goal.decreases-turns
decreases-turns l = l.trail.vars - length l.trail.lits
