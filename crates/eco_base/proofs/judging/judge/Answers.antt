-- What is found is what the outcome says.
use Rattle.std.proofs.Common.{subst}
use Rattle.eco_base.specs.Asking.{IsJudged, names_here}
use Rattle.eco_base.proofs.judging.judge.Goals as goal

pub returns-in-Some-clause-outcome : goal.returns-in-Some-clause-outcome
returns-in-Some-clause-outcome g c = λ rests base separated.
    let stage = c.args.stage.now in
    subst (IsJudged stage rests (names_here stage base) c.args.pair) c.in-Some.is (c.in_ok-rest.ensures.rest rests (names_here stage base) separated)

pub returns-clause-outcome : goal.returns-clause-outcome
returns-clause-outcome g c = λ rests base separated.
    let stage = c.args.stage.now in
    subst (IsJudged stage rests (names_here stage base) c.args.pair) c.in-None.is (c.in_ok-rest.ensures.rest rests (names_here stage base) separated)
