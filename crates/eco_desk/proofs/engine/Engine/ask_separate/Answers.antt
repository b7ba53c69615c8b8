-- The question is of the target that the engine is turned to.
use Rattle.std.proofs.Common.{◌≡◌, Some, sym, subst}
use Rattle.std.specs.Prelude.{IfErr, IfOk}
use Rattle.eco_pose.specs.declared.question.Question.TheVariants as questions
use Rattle.eco_pose.specs.Asking.{IsSearched}
use Rattle.eco_pose.specs.Questions.{IsAskable}
use Rattle.eco_pose.specs.Stuck.{IsAnswered, IsLeft, IsUnfinished, NoneCompared}
use Rattle.eco_pose.proofs.AskLaws.{answered, left_of_problem, left_open}
use Rattle.eco_desk.specs.Engines.{EngineValue}
use Rattle.eco_desk.proofs.engine.Engine.ask_separate.Goals as goal
use Rattle.eco_desk.proofs.engine.Engine.ask_separate.Goals.{in-Answered, in-GivenUp}

pub pose_separate-requires-clause-askable : goal.pose_separate-requires-clause-askable
pose_separate-requires-clause-askable g c = (
  c.args.target,
  c.args.patches.now,
  subst (λ (engine : EngineValue). engine.turned ≡ Some (record { number = c.args.target; patches = c.args.patches.now })) (sym c.self.view_is) c.requires.turned,
  subst (λ (engine : EngineValue). IsAskable engine.problem.implementation (questions.Separate c.args.target c.args.patches.now c.args.base.now c.args.rest.now)) (sym c.self.view_is) c.requires.askable,
)

pub returns-clause-answer : goal.returns-clause-answer
returns-clause-answer g c =
    let question = questions.Separate c.args.target c.args.patches.now c.args.base.now c.args.rest.now in
    let turned = subst (λ (engine : EngineValue). engine.turned ≡ Some (record { number = c.args.target; patches = c.args.patches.now })) (sym c.self.view_is) c.requires.turned in
    let posed = c.in_ok-posed.ensures.posed c.args.target c.args.patches.now turned in
    elim c.match-branch-3.branch [
      | in-Answered w ↦
          subst (λ r. IfOk r (IsAnswered c.args.self.now.problem question)) (sym w.result-is)
          (subst (λ (engine : EngineValue). IsAnswered engine.problem question w.in-Answered.asked) c.self.view_is
          (answered c.self.inside.problem.now question c.in_ok-posed.posed c.self.inside.limit w.in-Answered.asked posed (subst (IsSearched c.in_ok-posed.posed c.self.inside.limit) w.in-Answered.is c.in_ok-asked.ensures)))
      | in-GivenUp w ↦ subst (λ r. IfOk r (IsAnswered c.args.self.now.problem question)) (sym w.result-is) tt
    ]

pub returns-clause-unfinished : goal.returns-clause-unfinished
returns-clause-unfinished g c =
    let question = questions.Separate c.args.target c.args.patches.now c.args.base.now c.args.rest.now in
    let turned = subst (λ (engine : EngineValue). engine.turned ≡ Some (record { number = c.args.target; patches = c.args.patches.now })) (sym c.self.view_is) c.requires.turned in
    let posed = c.in_ok-posed.ensures.posed c.args.target c.args.patches.now turned in
    let askable = subst (λ (engine : EngineValue). IsAskable engine.problem.implementation question) (sym c.self.view_is) c.requires.askable in
    elim c.match-branch-3.branch [
      | in-Answered w ↦ subst (λ r. IfErr r (IsUnfinished c.args.self.now.problem NoneCompared c.args.self.now.limit)) (sym w.result-is) tt
      | in-GivenUp w ↦
          let (same, legal, spent) = subst (IsSearched c.in_ok-posed.posed c.self.inside.limit) w.in-GivenUp.is c.in_ok-asked.ensures in
          let open_still = left_open c.self.inside.problem.now question c.in_ok-posed.posed c.self.inside.limit w.in-GivenUp.left w.left_separate.result askable posed same legal spent w.left_separate.ensures in
          subst (λ r. IfErr r (IsUnfinished c.args.self.now.problem NoneCompared c.args.self.now.limit)) (sym w.result-is)
          (left_of_problem c.args.self.now.problem question c.args.self.now.limit w.left_separate.result c.requires.of_problem
          (subst (λ (engine : EngineValue). IsLeft engine.problem engine.limit question w.left_separate.result) c.self.view_is open_still))
    ]
