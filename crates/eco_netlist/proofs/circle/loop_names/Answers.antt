use Rattle.std.proofs.Common.{◌<◌, ◌∙◌, [], length, get_or, subst, List, ℕ}
use Rattle.std.specs.Prelude.{All}
use Rattle.eco_netlist.specs.Refusals.{IsNoLater}
use Rattle.eco_netlist.proofs.CircleLemmas.{smallest_turned}
use Rattle.eco_netlist.proofs.circle.loop_names.Goals as goal

pub returns-clause-smallest : goal.returns-clause-smallest
returns-clause-smallest c =
    smallest_turned c.in_ok-outputs.outputs.items c.smallest_place-first.result c.of.result
    (subst (λ (names : List (List ℕ)). c.smallest_place-first.result < length names) c.as_slice.ensures.value c.smallest_place-first.ensures.within)
    (subst (λ (names : List (List ℕ)). All (IsNoLater (get_or names c.smallest_place-first.result [])) names) c.as_slice.ensures.value c.smallest_place-first.ensures.smallest)
    (c.of.ensures ∙ c.turned.ensures)
