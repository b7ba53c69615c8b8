-- It is one of the two.
use Rattle.std.proofs.Common.{Some, inl, inr, sym, ◌∙◌, ap}
use Rattle.eco_targets.proofs.cheapest.cheaper_of.Goals as goal

pub returns-in-Some-clause-either : goal.returns-in-Some-clause-either
returns-in-Some-clause-either c =
    elim c.cheaper.ensures.either [
      | inl same ↦ inl same
      | inr same ↦ inr (c.in-Some.is ∙ ap Some (sym same))
    ]
