-- The trail fits the clauses; nothing is new, and the clauses so far give nothing, or a literal is new.
use Rattle.std.proofs.Common.{◌≡◌}
use Rattle.eco_trace.specs.Resolution.{clauses_of}
use Rattle.eco_scan.specs.Scanning.{IsReady, ArePassed}
use Rattle.eco_scan.proofs.propagate.pass.Given as goal

abbrev pub invariant-loop-node : goal.invariant-loop-node
invariant-loop-node l = IsReady (clauses_of l.trace) l.trail × (l.trail.vars ≡ l.initial.trail.vars) × ArePassed (clauses_of l.trace) l.initial.trail l.trail l.node
