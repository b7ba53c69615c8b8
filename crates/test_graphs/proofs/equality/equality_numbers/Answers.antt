-- Where no net is a target, the netlists are closed.
use Rattle.std.proofs.Common.{refl}
use Rattle.test_graphs.proofs.equality.equality_numbers.Goals as goal

pub equality_clauses-requires-clause-left_closed : goal.equality_clauses-requires-clause-left_closed
equality_clauses-requires-clause-left_closed c = c.if-not-is_closed.ensures.0 refl

pub equality_clauses-requires-clause-right_closed : goal.equality_clauses-requires-clause-right_closed
equality_clauses-requires-clause-right_closed c = c.if-not-is_closed-2.ensures.0 refl
