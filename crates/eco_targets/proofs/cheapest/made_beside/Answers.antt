-- Either patch is one that was made.
use Rattle.std.proofs.Common.{Option, IfSome, inl, inr, sym, subst}
use Rattle.eco_targets.specs.declared.Made.{Made}
use Rattle.eco_targets.specs.Made.{IsMadeLeast}
use Rattle.eco_targets.proofs.cheapest.made_beside.Goals as goal

pub returns-clause-made : goal.returns-clause-made
returns-clause-made g c =
    let problem = c.args.target.now.problem in
    elim c.cheaper_of.ensures.either [
      | inl same ↦ subst (λ (made : Made). IsMadeLeast problem made.patch made.out made.report) (sym same) c.requires.made
      | inr same ↦ subst (λ (beside : Option Made). IfSome beside (λ made. IsMadeLeast problem made.patch made.out made.report)) same c.greedy_run-beside.ensures.made
    ]
