-- The base is chosen.
use Rattle.std.proofs.Common.{sym, subst, take}
use Rattle.std.specs.Global.{Vec}
use Rattle.eco_base.specs.declared.based.Based.{Based}
use Rattle.eco_base.specs.Asking.{names_here}
use Rattle.eco_base.specs.Chosen.{IsChosen}
use Rattle.eco_base.proofs.EndLaws.{base_is_chosen}
use Rattle.eco_base.proofs.choosing.chosen_at.Goals as goal

pub returns-in-Ok-clause-chosen : goal.returns-in-Ok-clause-chosen
returns-in-Ok-clause-chosen g c =
    let stage = c.args.stage.now in
    let refutation = c.in-Ok.refutation in
    subst (λ (kept : Vec Based). IsChosen stage.problem.now stage.number stage.patches (names_here stage (take stage.paid stage.columns.items)) (record { new = kept; posed = refutation.posed; trace = refutation.trace })) (sym c.into_kept.ensures)
    (base_is_chosen stage c.run.new.state refutation c.requires.stage c.requires.order c.in-Ok.ensures.done)
