-- A walk in the order of turns is the greedy choice, which is answered with what any base costs at least.
use Rattle.std.proofs.Common.{[], IfOk, sym, subst}
use Rattle.std.specs.Option.{IfSome}
use Rattle.eco_base.specs.Targets.{TargetValue}
use Rattle.eco_least.specs.Weighed.{IsBase, IsGreedyChoice, IsLeast, IsWalkedLast}
use Rattle.eco_least.proofs.AccountLaws.{greedy_base, walked_greedy}
use Rattle.eco_least.proofs.choosing.within.Goals as goal
use Rattle.eco_least.proofs.choosing.within.Goals.{in-Err, in-Ok-None, in-Ok-Some+in-Err-with_least, in-Ok-Some+in-Ok}

pub walk_last-requires-clause-account : goal.walk_last-requires-clause-account
walk_last-requires-clause-account g c = c.open-account.ensures c.args.target.now c.in_ok-weighed.weighed

pub with_least-requires-clause-base : goal.with_least-requires-clause-base
with_least-requires-clause-base g c =
    let t = c.args.target.now in
    let chosen = c.in-Ok-Some.chosen in
    subst (λ (t : TargetValue). IsBase t chosen) (sym c.in-Ok-Some.ensures.stays)
    (greedy_base t chosen (walked_greedy t chosen (subst (λ found. IfSome found (IsWalkedLast t [])) c.in-Ok-Some.field-0-is c.in-Ok-Some.ensures.walked)))

pub returns-clause-base : goal.returns-clause-base
returns-clause-base g c =
    let t = c.args.target.now in
    elim c.match-walk_last.branch [
      | in-Ok-Some+in-Ok w ↦
          subst (λ r. IfOk r (λ found. IfSome found (λ cheap. IsGreedyChoice t cheap.chosen))) (sym w.found-is)
          (subst (IsGreedyChoice t) (sym w.in-Ok.ensures.base)
          (walked_greedy t w.in-Ok-Some.chosen (subst (λ found. IfSome found (IsWalkedLast t [])) w.in-Ok-Some.field-0-is w.in-Ok-Some.ensures.walked)))
      | in-Ok-Some+in-Err-with_least w ↦ subst (λ r. IfOk r (λ found. IfSome found (λ cheap. IsGreedyChoice t cheap.chosen))) (sym w.found-is) tt
      | in-Ok-None w ↦ subst (λ r. IfOk r (λ found. IfSome found (λ cheap. IsGreedyChoice t cheap.chosen))) (sym w.found-is) tt
      | in-Err w ↦ subst (λ r. IfOk r (λ found. IfSome found (λ cheap. IsGreedyChoice t cheap.chosen))) (sym w.found-is) tt
    ]

pub returns-clause-least : goal.returns-clause-least
returns-clause-least g c =
    let t = c.args.target.now in
    elim c.match-walk_last.branch [
      | in-Ok-Some+in-Ok w ↦
          subst (λ r. IfOk r (λ found. IfSome found (λ cheap. IsLeast t cheap.least))) (sym w.found-is)
          (subst (λ (t : TargetValue). IsLeast t w.in-Ok.cheap.least) w.in-Ok-Some.ensures.stays w.in-Ok.ensures.least)
      | in-Ok-Some+in-Err-with_least w ↦ subst (λ r. IfOk r (λ found. IfSome found (λ cheap. IsLeast t cheap.least))) (sym w.found-is) tt
      | in-Ok-None w ↦ subst (λ r. IfOk r (λ found. IfSome found (λ cheap. IsLeast t cheap.least))) (sym w.found-is) tt
      | in-Err w ↦ subst (λ r. IfOk r (λ found. IfSome found (λ cheap. IsLeast t cheap.least))) (sym w.found-is) tt
    ]
