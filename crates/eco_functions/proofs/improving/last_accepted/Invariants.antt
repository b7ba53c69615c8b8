-- The best candidate so far has both marks, and the judges stay what they are.
use Rattle.std.proofs.Common.{◌≡◌}
use Rattle.std.specs.Prelude.{IfSome}
use Rattle.eco_functions.specs.Improving.{HasMarks}
use Rattle.eco_functions.proofs.improving.last_accepted.Given as goal

abbrev pub invariant-loop : goal.invariant-loop
invariant-loop g l = record {
  best : IfSome l.best (λ candidate. HasMarks l.fn.judges candidate.aig candidate.root);
  judges : l.judges ≡ l.fn.judges;
}
