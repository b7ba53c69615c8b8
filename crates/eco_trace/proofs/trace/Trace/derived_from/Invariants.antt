use Rattle.eco_trace.specs.Resolution.{clauses_of}
use Rattle.eco_trace.specs.Merging.{IsDeriving}
use Rattle.eco_trace.proofs.trace.Trace.derived_from.Given as goal

abbrev pub invariant-loop-link : goal.invariant-loop-link
invariant-loop-link l = IsDeriving (clauses_of l.self) l.begin l.links l.link-index l.clause.items
