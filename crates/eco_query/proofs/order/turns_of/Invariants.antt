use Rattle.eco_query.specs.Candidates.{AreFirstTurns}
use Rattle.eco_query.proofs.order.turns_of.Given as goal

abbrev pub invariant-loop-net : goal.invariant-loop-net
invariant-loop-net l =
    AreFirstTurns l.problem.implementation l.problem.weights l.problem.input_weight l.i l.marks l.net l.turns.items
