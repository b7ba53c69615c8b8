use Rattle.std.proofs.Common.{rules}
use Rattle.std.specs.Ordering.{is_lt}
use Rattle.std.proofs.lemmas.List.Sorted.{ranks_by, answers_always}
use Rattle.eco_query.specs.declared.order.Turn.{Turn}
use Rattle.eco_query.specs.Candidates.{turn_order}
use Rattle.eco_query.proofs.TurnOrder.{turn_order_total}
use Rattle.eco_query.proofs.order.sort_turns.Goals as goal

pub returns-clause-sorted : goal.returns-clause-sorted
returns-clause-sorted c =
    c.sort_unstable_by.ensures.sorted (λ first second. is_lt (turn_order first second))
    (ranks_by turn_order_total (λ (turn : Turn). turn))
    (answers_always _ _ _ (λ f a r g h. search rules))
