-- The packing from the whole weights on.
use Rattle.std.proofs.Common.{sym, subst}
use Rattle.eco_floor.specs.Search.{IsPacked}
use Rattle.eco_floor.proofs.Packed.{packed_whole}
use Rattle.eco_floor.proofs.search.look.Goals as goal

pub returns-then-is_above : goal.returns-then-is_above
returns-then-is_above c _ =
    let rows = c.args.rows.now in
    let weights = c.args.weights.now in
    let decisions = c.args.decisions.now in
    let whole = subst (λ slack. IsPacked rows weights decisions slack 0) (sym c.in_ok-slack.ensures) (packed_whole rows weights decisions) in
    c.is_above.ensures c.if-is_above.true weights decisions (c.decide_all-start.ensures rows weights whole)
