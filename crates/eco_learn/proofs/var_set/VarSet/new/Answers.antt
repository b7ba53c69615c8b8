-- No stamp is the present one.
use Rattle.std.proofs.Common.{◌<◌, ◌≤◌, false, replicate, ap, ◌∙◌, rules, arith, ℕ}
use Rattle.std.proofs.lemmas.List.Elements.{All-weaker}
use Rattle.eco_learn.proofs.VarSetLaws.{none_in, none_filled, found_none}
use Rattle.eco_learn.proofs.var_set.VarSet.new.Goals as goal

pub invariant_of-result : goal.invariant_of-result
invariant_of-result c =
    let stamps = c.in_ok-stamps.stamps.items in
    let all = none_filled stamps _ (c.in_ok-stamps.ensures.items_if_clones_equal (search rules)) in (
      omega arith,
      omega arith,
      All-weaker (λ (n : ℕ). n < 1) (λ (n : ℕ). n ≤ 1) (λ n lt. omega arith) stamps all,
      found_none _ _ _ (none_in stamps 1 all),
    )

pub returns : goal.returns
returns c =
    let stamps = c.in_ok-stamps.stamps.items in
    let all = none_filled stamps _ (c.in_ok-stamps.ensures.items_if_clones_equal (search rules)) in
    let long = c.in_ok-stamps.stamps.ok.0 in
    none_in stamps 1 all ∙ ap (λ (n : ℕ). replicate n false) (omega (arith, long, c.in_ok-stamps.ensures.len))
