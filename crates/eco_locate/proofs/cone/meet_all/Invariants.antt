-- The walk has only gone further.
use Rattle.eco_locate.specs.Ranking.{IsFurther}
use Rattle.eco_locate.proofs.cone.meet_all.Given as goal

abbrev pub invariant-loop-term : goal.invariant-loop-term
invariant-loop-term l = IsFurther l.initial.cone l.cone
