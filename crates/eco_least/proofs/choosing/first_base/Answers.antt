-- What is walked is a base.
use Rattle.std.proofs.Common.{[], subst}
use Rattle.std.specs.Option.{IfSome}
use Rattle.eco_least.specs.Weighed.{IsWalkedLast}
use Rattle.eco_least.proofs.AccountLaws.{walked_base}
use Rattle.eco_least.proofs.choosing.first_base.Goals as goal

pub returns-in-Ok-Some-clause-base : goal.returns-in-Ok-Some-clause-base
returns-in-Ok-Some-clause-base g c =
    let t = c.args.target.now in
    walked_base t [] c.in-Ok-Some.greedy (subst (λ found. IfSome found (IsWalkedLast t [])) c.in-Ok-Some.field-0-is c.in-Ok-Some.ensures.walked)
