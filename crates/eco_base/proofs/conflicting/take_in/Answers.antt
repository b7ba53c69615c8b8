-- What was asked about suffices, two inputs show that it doesn't, or the rest is new.
use Rattle.std.proofs.Common.{Bool, List, sym, subst}
use Rattle.eco_laws.proofs.AskedLemmas.{none_separated}
use Rattle.eco_base.specs.Asking.{AreMoreRests, IsOutcome, names_here}
use Rattle.eco_base.proofs.RestLaws.{more_rests}
use Rattle.eco_base.proofs.conflicting.take_in.Goals as goal

pub returns-in-Never : goal.returns-in-Never
returns-in-Never c = λ stage base is some outcome before target behind are len.
    let rests = c.args.rests.now.items in
    let refuted = subst (IsOutcome stage rests base) c.in-Never.is outcome in
    none_separated stage.problem.now.implementation stage.problem.now.goal stage.patches before target behind rests (names_here stage base)
    (refuted.none before target behind are len)

pub returns-in-Conflict : goal.returns-in-Conflict
returns-in-Conflict c = λ stage base is some outcome. subst (IsOutcome stage c.args.rests.now.items base) c.in-Conflict.is outcome

pub returns-in_ok-push-in-Further : goal.returns-in_ok-push-in-Further
returns-in_ok-push-in-Further c = λ stage base is some outcome.
    let old = c.args.rests.now.items in
    subst (λ (new : List (List Bool)). AreMoreRests stage old new) (sym c.in_ok-push-in-Further.ensures.items)
    (more_rests stage old c.in-Further.rest is some (subst (IsOutcome stage old base) c.in-Further.is outcome))
