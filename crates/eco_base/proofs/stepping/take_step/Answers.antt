-- The rows are told apart.
use Rattle.std.proofs.Common.{sym, subst}
use Rattle.eco_cover.specs.InPlay.{TellInPlay}
use Rattle.eco_base.specs.Scenes.{scene_of}
use Rattle.eco_base.proofs.SceneLaws.{targets_at}
use Rattle.eco_base.proofs.BaseLaws.{rows_are_apart}
use Rattle.eco_base.proofs.stepping.take_step.Goals as goal

pub next-requires-clause-apart : goal.next-requires-clause-apart
next-requires-clause-apart g c =
    let stage = c.args.stage.now in
    let state = c.args.state.now in
    let (before, target, behind, are, len) = targets_at stage c.requires.stage in
    let told = rows_are_apart (scene_of stage before target behind) state (c.requires.state.scene before target behind are len) c.requires.state.ones.count c.requires.state.zeros.count in
    subst (λ fixed. TellInPlay fixed state.from c.rows-ones.result.now c.rows-zeros.result.now) (sym c.as_slice.ensures.value)
    (subst (λ ones. TellInPlay state.fixed.items state.from ones c.rows-zeros.result.now) (sym c.rows-ones.ensures)
    (subst (λ zeros. TellInPlay state.fixed.items state.from state.ones.rows zeros) (sym c.rows-zeros.ensures) told))
