-- The engine has the implementation with the stage's patches, and the base is one that a walk finds.
use Rattle.std.proofs.Common.{Option, sym, subst}
use Rattle.std.specs.Option.{IfSome}
use Rattle.std.specs.Global.{Vec}
use Rattle.eco_base.specs.declared.based.Based.{Based}
use Rattle.eco_base.specs.declared.separating.Refutation.{Refutation}
use Rattle.eco_base.specs.Asking.{names_here}
use Rattle.eco_base.specs.Fronts.{IsKeptAtEnd}
use Rattle.eco_base.proofs.EndLaws.{base_is_walked}
use Rattle.eco_base.proofs.SceneLaws.{spliced_is}
use Rattle.eco_base.proofs.walking.walk_at.Goals as goal

pub begin_with-requires-clause-spliced : goal.begin_with-requires-clause-spliced
begin_with-requires-clause-spliced g c =
    spliced_is c.args.stage.now c.args.engine.now c.spliced.result.now c.requires.engine c.spliced.ensures

pub returns-in-Ok-Some-clause-walked : goal.returns-in-Ok-Some-clause-walked
returns-in-Ok-Some-clause-walked g c =
    let stage = c.args.stage.now in
    let refutation = c.in-Ok-Some.refutation in
    base_is_walked stage (names_here stage c.args.walk.last.now) c.into_kept.result refutation c.requires.stage c.requires.order
    (subst (λ (kept : Vec Based). IsKeptAtEnd stage kept refutation) (sym c.into_kept.ensures)
    (subst (λ (found : Option Refutation). IfSome found (IsKeptAtEnd stage c.walk_from.new.state.kept)) c.in-Ok-Some.field-0-is c.in-Ok-Some.ensures.kept))
