use Rattle.std.proofs.Common.{◌≡◌, subst}
use Rattle.eco_query.specs.Problem.{IsClosed}
use Rattle.test_graphs.proofs.problems.paired.Goals as goal

pub pair-requires-clause-care_closed : goal.pair-requires-clause-care_closed
pair-requires-clause-care_closed g c = λ own given.
    let same : c.closed-care.result ≡ own = cc in
    subst IsClosed same c.closed-care.ensures
