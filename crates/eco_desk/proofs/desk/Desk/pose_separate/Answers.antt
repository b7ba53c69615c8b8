-- The turn goes on with the desk.
use Rattle.std.proofs.Common.{◌≡◌, ℕ, Some, refl, sym, subst}
use Rattle.std.proofs.lemmas.Result.{IfOk-weaker}
use Rattle.eco_meaning.specs.Circuit.{Circuit}
use Rattle.eco_pose.specs.declared.question.Question.TheVariants as questions
use Rattle.eco_pose.specs.Questions.{IsAskable}
use Rattle.eco_pose.specs.Stuck.{IsPosed}
use Rattle.eco_desk.specs.declared.desk.Desk.{Desk}
use Rattle.eco_desk.specs.Engines.{turned_to}
use Rattle.eco_desk.proofs.DeskLaws.{desk_with_turn, turned_is}
use Rattle.eco_desk.proofs.desk.Desk.pose_separate.Goals as goal

pub pose_turned-requires-clause-turn : goal.pose_turned-requires-clause-turn
pose_turned-requires-clause-turn c = c.requires.desk.turned c.in-Some.turn c.in-Some.is

pub pose_turned-requires-clause-askable : goal.pose_turned-requires-clause-askable
pose_turned-requires-clause-askable c =
    let f = c.args.problem.now.implementation in
    let (i, patches, to, askable) = c.requires.askable in
    let (number, follows) = turned_is c.args.self.now.turn c.in-Some.turn i patches c.in-Some.is to in
    subst (λ j. IsAskable f (questions.Separate j c.in-Some.turn.patches c.args.base.now c.args.rest.now)) (sym number)
    (subst (λ (p : Circuit). IsAskable f (questions.Separate i p c.args.base.now c.args.rest.now)) (sym follows) askable)

pub returns-clause-posed : goal.returns-clause-posed
returns-clause-posed c =
    let problem = c.args.problem.now in
    let turn = c.in-Some.turn in
    let asked = λ (i : ℕ) (p : Circuit). questions.Separate i p c.args.base.now c.args.rest.now in
    IfOk-weaker c.pose_turned.result (IsPosed problem (asked turn.number turn.patches))
    (λ posed. (i : ℕ) (patches : Circuit) → turned_to c.args.self.now ≡ Some (record { number = i; patches = patches }) → IsPosed problem (asked i patches) posed)
    (λ posed is i patches to.
    let (number, follows) = turned_is c.args.self.now.turn turn i patches c.in-Some.is to in
    subst (λ (p : Circuit). IsPosed problem (asked i p) posed) follows (subst (λ j. IsPosed problem (asked j turn.patches) posed) number is))
    c.pose_turned.ensures.posed

pub returns-clause-desk : goal.returns-clause-desk
returns-clause-desk c =
    let old = c.args.self.now in
    let new : Desk = record old { swept = c.pose_turned.new.swept; turn = Some c.pose_turned.new.turn } in
    desk_with_turn c.args.problem.now old new c.pose_turned.new.turn c.requires.desk c.pose_turned.ensures.continues refl refl c.pose_turned.ensures.turn
