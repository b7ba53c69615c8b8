-- A gate that was met closes a circle, and at the end the walk has an order.
use Rattle.std.proofs.Common.{arith}
use Rattle.std.proofs.lemmas.Option.{MatchOption-at_some}
use Rattle.eco_gates.specs.Walk.{IsMet}
use Rattle.eco_gates.proofs.Walked.{place_found, met_circle, walked_order}
use Rattle.eco_gates.proofs.ordering.arrange.Goals as goal

pub circle_of-requires : goal.circle_of-requires
circle_of-requires c =
    let stack = c.walk_from.new.walk.stack.items in
    let met = MatchOption-at_some _ (IsMet c.args.gates.now stack) c.in-Some.first c.in-Some.is c.in_ok-walk_from.ensures.walked.outcome in
    rw c.as_slice-in-Some.ensures.value (place_found stack met.place met.frame c.in-Some.first met.at met.gate).0

pub returns-in-Some : goal.returns-in-Some
returns-in-Some c =
    let walked = c.in_ok-walk_from.ensures.walked in
    let walk = c.walk_from.new.walk in
    let met = MatchOption-at_some _ (IsMet c.args.gates.now walk.stack.items) c.in-Some.first c.in-Some.is walked.outcome in
    let closes = met_circle c.args.gates.now _ walk c.in-Some.first walked.stands met in
    record { arranged = rw (c.in_ok-circle-in-Some.ensures.circle, c.as_slice-in-Some.ensures.value) closes }

pub returns : goal.returns
returns c =
    let invariant = c.loop-root.invariant in
    record { arranged = walked_order c.args.gates.now _ c.loop-root.walk invariant.stands invariant.empty (λ i lt. invariant.walked i (let end = c.loop-root-test.false in omega (arith, lt, end))) }
