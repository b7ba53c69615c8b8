-- The engine is one of the problem.
use Rattle.std.proofs.Common.{sym, subst}
use Rattle.std.proofs.lemmas.Result.{IfOk-at_ok}
use Rattle.eco_pose.specs.Questions.{AtTarget}
use Rattle.eco_desk.specs.Desks.{AreBefore}
use Rattle.eco_desk.specs.Engines.{EngineValue}
use Rattle.test_engine.proofs.separating.is_found_by_new_engine.Goals as goal

pub turn-requires-clause-before : goal.turn-requires-clause-before
turn-requires-clause-before g c =
    let front = c.args.front.now in
    subst (λ (engine : EngineValue). AtTarget engine.problem.implementation front.target (AreBefore engine.problem.implementation front.patch))
    (sym (IfOk-at_ok _ c.expect-engine.ensures c.new.ensures)) c.requires.front.before
