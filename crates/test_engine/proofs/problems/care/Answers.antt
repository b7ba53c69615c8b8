-- The one netlist that there is has no target.
use Rattle.std.proofs.Common.{subst}
use Rattle.std.proofs.lemmas.Option.{same_Some}
use Rattle.eco_query.specs.Problem.{IsClosed}
use Rattle.test_engine.proofs.problems.care.Goals as goal

pub returns : goal.returns
returns g c = λ x is. subst IsClosed (same_Some c.closed_netlist-care.result x is) c.closed_netlist-care.ensures
