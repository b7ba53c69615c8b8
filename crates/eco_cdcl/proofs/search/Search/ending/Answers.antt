-- What is learnt from a clause that is wrong at level 0 is the empty clause.
use Rattle.std.proofs.Common.{arith}
use Rattle.eco_cdcl.proofs.Turning.{refuted_within}
use Rattle.eco_cdcl.proofs.search.Search.ending.Goals as goal

pub returns-in_ok-finish-in-Some-clause-ended : goal.returns-in_ok-finish-in-Some-clause-ended
returns-in_ok-finish-in-Some-clause-ended g c = λ cnf begun. refuted_within cnf 0 c.args.limit c.args.trace.now c.finish.new.trace begun (omega (arith, c.requires.limit)) c.in_ok-finish-in-Some.ensures.adds

pub returns-in-None-clause-ended : goal.returns-in-None-clause-ended
returns-in-None-clause-ended g c = c.turns.ensures.ended
