-- The patches are before the target.
use Rattle.std.proofs.Common.{sym, subst}
use Rattle.eco_pose.specs.Questions.{AtTarget}
use Rattle.eco_desk.specs.Desks.{AreBefore}
use Rattle.eco_desk.specs.Engines.{EngineValue}
use Rattle.eco_desk.proofs.engine.Engine.turn.Goals as goal

pub turn-requires-clause-before : goal.turn-requires-clause-before
turn-requires-clause-before g c =
    subst (λ (engine : EngineValue). AtTarget engine.problem.implementation c.args.i (AreBefore engine.problem.implementation c.args.patches.now)) (sym c.self.view_is) c.requires.before
