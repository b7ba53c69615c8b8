-- The engine's problem is the one that is given.
use Rattle.std.proofs.Common.{subst}
use Rattle.eco_meaning.specs.Meaning.{IsRectifiable}
use Rattle.eco_desk.specs.Engines.{EngineValue}
use Rattle.eco_rectify.specs.Rectified.{IsRectifyAnswer}
use Rattle.eco_targets.proofs.rectifiable.Goals as goal

pub returns-in_ok-start-in-Ok-Rectifiable-clause-rectifiable : goal.returns-in_ok-start-in-Ok-Rectifiable-clause-rectifiable
returns-in_ok-start-in-Ok-Rectifiable-clause-rectifiable g c =
    subst (λ (engine : EngineValue). IsRectifiable engine.problem.implementation engine.problem.goal) c.in_ok-engine.ensures
    (subst (IsRectifyAnswer c.in_ok-engine.engine.problem) c.in-Ok-Rectifiable.field-0-is c.in-Ok-Rectifiable.ensures.answer)
