use Rattle.std.proofs.Common.{subst}
use Rattle.std.proofs.lemmas.Option.{same_Some}
use Rattle.eco_query.specs.Problem.{IsClosed}
use Rattle.test_locate.proofs.judging.closed_if_some.Goals as goal

pub returns-in-Some : goal.returns-in-Some
returns-in-Some g c netlist same = subst IsClosed (same_Some c.closed.result netlist same) c.closed.ensures
