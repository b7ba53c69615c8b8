-- One decision less, or the last one turned.
use Rattle.std.proofs.Common.{◌∷◌, [], ◌++◌, ◌∙◌, ap, sym, subst}
use Rattle.eco_floor.specs.declared.decision.Decision.TheVariants.{Left}
use Rattle.eco_floor.specs.Search.{AreAbove, AreSettled}
use Rattle.eco_floor.proofs.Settled.{above_front, settled_front, settled_turned}
use Rattle.eco_floor.proofs.search.turn.Goals as goal

pub returns-in-Taken : goal.returns-in-Taken
returns-in-Taken c rows weights best above settled =
    let front = c.pop.new.self.items in
    let e = c.in-Some.ensures.items ∙ ap (λ last. front ++ last ∷ []) c.in-Taken.is in
    let (are_above, are_settled) = c.loop-last.invariant rows weights best above settled in
    subst (AreSettled rows weights best) (sym c.in_ok-push.ensures.items)
    (settled_turned rows weights best front c.in-Taken.column (subst (AreAbove rows weights best) e are_above) (subst (AreSettled rows weights best) e are_settled))

pub loop-last-preserved : goal.loop-last-preserved
loop-last-preserved c rows weights best above settled =
    let front = c.pop.new.self.items in
    let e = c.in-Some.ensures.items ∙ ap (λ last. front ++ last ∷ []) c.in_default-last.is in
    let (are_above, are_settled) = c.loop-last.invariant rows weights best above settled in
    let now_above = subst (AreAbove rows weights best) e are_above in
    let now_settled = subst (AreSettled rows weights best) e are_settled in (
      above_front rows weights best front c.in_default-last.field-0 now_above now_settled,
      settled_front rows weights best front (Left c.in_default-last.field-0) now_settled,
    )
