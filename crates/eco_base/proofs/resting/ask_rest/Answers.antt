-- The question can be asked, and what its answer says.
use Rattle.std.proofs.Common.{arith, subst}
use Rattle.eco_meaning.specs.Circuit.{AreTargets}
use Rattle.eco_query.specs.Problem.{ProblemValue}
use Rattle.eco_pose.specs.Stuck.{IsAnswered}
use Rattle.eco_pose.specs.declared.question.Question.TheVariants.{Fix}
use Rattle.eco_base.proofs.AskLaws.{more_targets}
use Rattle.eco_base.proofs.resting.ask_rest.Goals as goal

pub ask_fix-requires-clause-fixed : goal.ask_fix-requires-clause-fixed
ask_fix-requires-clause-fixed g c targets are =
    let here = subst (λ (problem : ProblemValue). AreTargets problem.implementation targets) c.requires.engine.same_problem are in
    omega (arith, more_targets c.args.stage.now targets c.requires.stage here, c.requires.fixed)

pub rest_of-rest-requires-clause-asked : goal.rest_of-rest-requires-clause-asked
rest_of-rest-requires-clause-asked g c =
    (c.args.input.now, subst (λ (problem : ProblemValue). IsAnswered problem (Fix c.args.input.now c.args.fixed.now) c.in_ok-asked.asked) c.requires.engine.same_problem c.in_ok-asked.ensures.answer)

pub returns-clause-rest : goal.returns-clause-rest
returns-clause-rest g c =
    c.in_ok-rest.ensures c.args.input.now (subst (λ (problem : ProblemValue). IsAnswered problem (Fix c.args.input.now c.args.fixed.now) c.in_ok-asked.asked) c.requires.engine.same_problem c.in_ok-asked.ensures.answer)
