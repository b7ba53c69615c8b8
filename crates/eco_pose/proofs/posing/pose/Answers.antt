-- Each question is posed by its own call.
use Rattle.std.proofs.Common.{◌≡◌, sym, subst}
use Rattle.std.proofs.lemmas.Result.{IfOk-weaker}
use Rattle.std.specs.Option.{option_copied}
use Rattle.eco_query.specs.Problem.{ProblemValue}
use Rattle.eco_pose.specs.declared.question.Question.TheVariants as questions
use Rattle.eco_pose.specs.Questions.{IsAskable}
use Rattle.eco_pose.specs.Answers.{Asks}
use Rattle.eco_pose.specs.Shapes.{HasFewVariables, HasReaders, HasShape}
use Rattle.eco_pose.specs.Stuck.{IsPosed}
use Rattle.eco_pose.proofs.posing.pose.Goals as goal

pub pose_separate-requires-clause-separable : goal.pose_separate-requires-clause-separable
pose_separate-requires-clause-separable c =
    let same : c.args.question.now ≡ questions.Separate c.in-Separate.target c.in-Separate.patches c.as_slice-in-Separate.result.now c.as_slice-in-Separate-2.result.now = cc in
    (subst (IsAskable c.args.problem.now.implementation) same c.requires).2

pub returns-in-Separate-clause-asks : goal.returns-in-Separate-clause-asks
returns-in-Separate-clause-asks c =
    let problem = c.args.problem.now in
    let here = questions.Separate c.in-Separate.target c.in-Separate.patches c.as_slice-in-Separate.result.now c.as_slice-in-Separate-2.result.now in
    let same : here ≡ c.args.question.now = cc in
    IfOk-weaker c.pose_separate.result (IsPosed problem here) (Asks problem.implementation problem.goal c.args.question.now)
    (λ posed is. subst (λ q. Asks problem.implementation problem.goal q posed) same is.asks) c.pose_separate.ensures

pub returns-in-Fix-clause-asks : goal.returns-in-Fix-clause-asks
returns-in-Fix-clause-asks c =
    let problem = c.args.problem.now in
    let here = questions.Fix c.in-Fix.input c.in-Fix.fixed in
    IfOk-weaker c.pose_fix.result (IsPosed problem here) (Asks problem.implementation problem.goal c.args.question.now)
    (λ posed is. subst (λ q. Asks problem.implementation problem.goal q posed) (sym c.in-Fix.is) is.asks) c.pose_fix.ensures

pub returns-in-Fix-clause-reads : goal.returns-in-Fix-clause-reads
returns-in-Fix-clause-reads c =
    let problem = c.args.problem.now in
    let here = questions.Fix c.in-Fix.input c.in-Fix.fixed in
    IfOk-weaker c.pose_fix.result (IsPosed problem here) (HasReaders problem.implementation c.args.question.now)
    (λ posed is. subst (λ q. HasReaders problem.implementation q posed) (sym c.in-Fix.is) is.reads) c.pose_fix.ensures

pub returns-in-Equal-clause-asks : goal.returns-in-Equal-clause-asks
returns-in-Equal-clause-asks c =
    let problem = c.args.problem.now in
    let here = questions.Equal c.in-Equal.left c.in-Equal.right (option_copied c.as_ref.result) in
    let same : here ≡ c.args.question.now = cc in
    IfOk-weaker c.pose_differing.result (λ posed. (of : ProblemValue) → IsPosed of here posed) (Asks problem.implementation problem.goal c.args.question.now)
    (λ posed is. subst (λ q. Asks problem.implementation problem.goal q posed) same (is problem).asks) c.pose_differing.ensures

pub returns-in-Equal-clause-shape : goal.returns-in-Equal-clause-shape
returns-in-Equal-clause-shape c =
    let problem = c.args.problem.now in
    let here = questions.Equal c.in-Equal.left c.in-Equal.right (option_copied c.as_ref.result) in
    let same : here ≡ c.args.question.now = cc in
    IfOk-weaker c.pose_differing.result (λ posed. (of : ProblemValue) → IsPosed of here posed) (HasShape c.args.question.now)
    (λ posed is. subst (λ q. HasShape q posed) same (is problem).shape) c.pose_differing.ensures

pub returns-in-Equal-clause-reads : goal.returns-in-Equal-clause-reads
returns-in-Equal-clause-reads c =
    let problem = c.args.problem.now in
    let here = questions.Equal c.in-Equal.left c.in-Equal.right (option_copied c.as_ref.result) in
    let same : here ≡ c.args.question.now = cc in
    IfOk-weaker c.pose_differing.result (λ posed. (of : ProblemValue) → IsPosed of here posed) (HasReaders problem.implementation c.args.question.now)
    (λ posed is. subst (λ q. HasReaders problem.implementation q posed) same (is problem).reads) c.pose_differing.ensures

pub returns-in-Equal-clause-few : goal.returns-in-Equal-clause-few
returns-in-Equal-clause-few c =
    let problem = c.args.problem.now in
    let here = questions.Equal c.in-Equal.left c.in-Equal.right (option_copied c.as_ref.result) in
    let same : here ≡ c.args.question.now = cc in
    IfOk-weaker c.pose_differing.result (λ posed. (of : ProblemValue) → IsPosed of here posed) (HasFewVariables problem.implementation problem.goal c.args.question.now)
    (λ posed is. subst (λ q. HasFewVariables problem.implementation problem.goal q posed) same (is problem).few) c.pose_differing.ensures
