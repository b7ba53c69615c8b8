-- The question has the rests that are listed.
use Rattle.std.proofs.Common.{sym, subst}
use Rattle.eco_base.specs.Scenes.{scene_of}
use Rattle.eco_base.specs.Asking.{AreRests, IsOutcome}
use Rattle.eco_base.proofs.conflicting.ask_listed.Goals as goal

pub question-requires-clause-rests : goal.question-requires-clause-rests
question-requires-clause-rests g c = λ before target behind are len.
    subst (AreRests (scene_of c.args.stage.now before target behind)) (sym c.as_slice.ensures.value) (c.requires.rests before target behind are len)

pub returns-clause-found : goal.returns-clause-found
returns-clause-found g c =
    let stage = c.args.stage.now in
    c.in_ok-take_in.ensures stage c.args.base.now c.requires.stage c.requires.rests
    (subst (λ rests. IsOutcome stage rests c.args.base.now c.in_ok-outcome.outcome) c.as_slice.ensures.value c.in_ok-outcome.ensures.outcome)
