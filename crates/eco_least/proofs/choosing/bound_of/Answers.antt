-- What the rows say.
use Rattle.std.proofs.Common.{ℕ, List, subst}
use Rattle.eco_floor.specs.Sets.{IsFloor}
use Rattle.eco_least.proofs.WeighedLaws.{floor_least}
use Rattle.eco_least.proofs.choosing.bound_of.Goals as goal

pub returns : goal.returns
returns c t is account =
    let weighed = c.args.weighed.now in
    let rows = c.args.account.now.rows.items in
    let least = c.in_ok-least.least in
    floor_least t weighed is rows least account.rows
    (subst (λ (weights : List ℕ). IsFloor rows weights least) c.as_slice-weights.ensures.value
    (subst (λ (list : List (List ℕ)). IsFloor list c.as_slice-weights.result.now least) c.as_slice-rows.ensures.value c.in_ok-least.ensures))
