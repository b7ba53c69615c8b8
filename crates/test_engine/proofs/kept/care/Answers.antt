-- The one netlist that there is has no target.
use Rattle.std.proofs.Common.{subst}
use Rattle.std.proofs.lemmas.Option.{same_Some}
use Rattle.eco_query.specs.Problem.{IsClosed}
use Rattle.test_engine.proofs.kept.care.Goals as goal

pub returns-in-Some-clause-closed : goal.returns-in-Some-clause-closed
returns-in-Some-clause-closed g c x is = subst IsClosed (same_Some c.closed.result x is) c.closed.ensures.closed
