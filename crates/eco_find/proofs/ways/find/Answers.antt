-- What each way answers is what it promises.
use Rattle.std.proofs.Common.{Option, IfSome, subst}
use Rattle.eco_base.specs.Chosen.{IsChosen}
use Rattle.eco_base.specs.Targets.{paid_of}
use Rattle.eco_least.specs.declared.choosing.Cheap.{Cheap}
use Rattle.eco_least.specs.Least.{IsLeastCost}
use Rattle.eco_find.proofs.WayLaws.{by_greedy, by_light, by_within}
use Rattle.eco_find.proofs.ways.find.Goals as goal

pub returns-in-Ok-clause-found : goal.returns-in-Ok-clause-found
returns-in-Ok-clause-found g c =
    let t = c.args.target.now in
    by_greedy t.problem t.number t.patches (paid_of t) c.args.way c.in-Ok.chosen c.in-Greedy.is c.in-Ok.ensures.chosen

pub returns-in-Ok-Some-clause-found : goal.returns-in-Ok-Some-clause-found
returns-in-Ok-Some-clause-found g c =
    let t = c.args.target.now in
    let paid = paid_of t in
    let same = c.in-Ok-Some.field-0-is in
    by_within t.problem t.number t.patches paid c.args.way c.in-Within.effort c.in-Ok-Some.cheap c.telling.result c.telling.ensures
    (subst (λ (found : Option Cheap). IfSome found (λ it. IsLeastCost t.problem t.number t.patches paid it.least)) same c.in-Ok-Some.ensures.least) c.in-Within.is
    (subst (λ (found : Option Cheap). IfSome found (λ it. IsChosen t.problem t.number t.patches paid it.chosen)) same c.in-Ok-Some.ensures.base)

pub returns-in-Ok-light-clause-found : goal.returns-in-Ok-light-clause-found
returns-in-Ok-light-clause-found g c =
    let t = c.args.target.now in
    by_light t.problem t.number t.patches (paid_of t) c.args.way c.in-Light.effort c.in-Ok-light.cheap c.telling-in-Ok-light.result
    c.telling-in-Ok-light.ensures c.in-Ok-light.ensures.least c.in-Light.is c.in-Ok-light.ensures.base
