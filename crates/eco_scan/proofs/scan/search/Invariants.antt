-- Each round so far learnt a clause that was news.
use Rattle.std.proofs.Common.{◌≡◌}
use Rattle.eco_scan.specs.Rounds.{IsSearching}
use Rattle.eco_scan.proofs.scan.search.Given as goal

abbrev pub invariant-loop : goal.invariant-loop
invariant-loop l = IsSearching l.cnf l.trace l.trail l.counter × (l.learner.vars ≡ l.trail.vars)
