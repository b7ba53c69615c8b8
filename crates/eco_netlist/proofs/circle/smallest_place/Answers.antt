use Rattle.std.proofs.Common.{◌≡◌, ℕ, [], arith, inl, inr, subst, get_or}
use Rattle.std.proofs.lemmas.Bool.{cases_lt}
use Rattle.eco_lists.proofs.Places.{any_default}
use Rattle.eco_netlist.specs.Refusals.{IsNoLater}
use Rattle.eco_netlist.proofs.CircleLemmas.{no_later_through}
use Rattle.eco_netlist.proofs.circle.smallest_place.Goals as goal

pub loop-place-preserved : goal.loop-place-preserved
loop-place-preserved c = record {
  within = c.smaller_place-least.ensures.within;
  smallest = λ k below.
      elim (cases_lt k c.loop-place.place) [
        | inl before ↦
            no_later_through (get_or c.args.names.now c.smaller_place-least.result []) (get_or c.args.names.now c.loop-place.least []) (get_or c.args.names.now k [])
            c.smaller_place-least.ensures.least (c.loop-place.invariant.smallest k before)
        | inr last ↦
            let here : c.loop-place.place ≡ k = omega arith in
            subst (λ (i : ℕ). IsNoLater (get_or c.args.names.now c.smaller_place-least.result []) (get_or c.args.names.now i [])) here c.smaller_place-least.ensures.place
      ];
}

pub returns-clause-smallest : goal.returns-clause-smallest
returns-clause-smallest c = λ k d within.
    rw (any_default c.args.names.now k d [] within) (c.loop-place.invariant.smallest k (omega arith))
