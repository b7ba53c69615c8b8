-- One candidate more is looked at.
use Rattle.std.proofs.Common.{◌≡◌, ◌+◌, sym, subst, arith, suc, take, get_or}
use Rattle.std.proofs.lemmas.Option.{slice_get-get_or}
use Rattle.eco_lists.proofs.Places.{take_at_more}
use Rattle.eco_bound.specs.Payers.{IsLeastLeft}
use Rattle.eco_bound.specs.declared.payers.Payer.{Payer}
use Rattle.eco_bound.proofs.payers.least_left.Goals as goal

pub loop-payer-preserved : goal.loop-payer-preserved
loop-payer-preserved c =
    let payers = c.args.payers.now in
    let i = c.loop-payer.payer-index in
    let d : Payer = record { net = record { 0 = 0 }; left = 0 } in
    let suc_i : suc i ≡ i + 1 = omega arith in
    subst (λ n. IsLeastLeft c.args.sight.now (take n payers) c.lesser-least.result) suc_i
    (subst (λ list. IsLeastLeft c.args.sight.now list c.lesser-least.result) (sym (take_at_more payers i (get_or payers i d) (slice_get-get_or payers i d c.loop-payer-test.true)))
    (c.lesser-least.ensures (take i payers) c.loop-payer.invariant))
