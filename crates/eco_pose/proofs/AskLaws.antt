-- What is answered to a posed question, and what is left of one that was given up.
use Rattle.std.proofs.Common.{◌≡◌, ℕ, sym, subst}
use Rattle.eco_trace.specs.Resolution.{IsLegal}
use Rattle.eco_trace.specs.Verdicts.{IsModel, IsRefutation, IsSpent}
use Rattle.eco_query.specs.Problem.{ProblemValue}
use Rattle.eco_pose.specs.declared.asking.Abandoned.{Abandoned}
use Rattle.eco_pose.specs.declared.asking.Asked.{Asked}
use Rattle.eco_pose.specs.declared.asking.Asked.TheVariants.{Never, Found}
use Rattle.eco_pose.specs.declared.question.Question.{Question}
use Rattle.eco_pose.specs.declared.unfinished.Stuck.{Stuck}
use Rattle.eco_pose.specs.declared.unfinished.Unfinished.{Unfinished}
use Rattle.eco_pose.specs.declared.unfinished.Unfinished.TheVariants.{GivenUp, OutOfMemory}
use Rattle.eco_pose.specs.Asking.{IsReply}
use Rattle.eco_pose.specs.Posing.{PosedValue}
use Rattle.eco_pose.specs.Questions.{IsAskable, IsOfProblem}
use Rattle.eco_pose.specs.Stuck.{IsAnswered, IsGivenUp, IsLeft, IsLeftAs, IsPosed, IsUnfinished, NoneCompared}

-- what is replied to the clauses answers the question that they ask
pub answered : (problem : ProblemValue) (question : Question) (posed : PosedValue) (limit : ℕ) (asked : Asked) → IsPosed problem question posed → IsReply posed limit asked → IsAnswered problem question asked
answered problem question posed limit (Never other trace) is reply = (subst (IsPosed problem question) (sym reply.0) is, subst (λ (value : PosedValue). IsRefutation value.clauses trace) (sym reply.0) reply.1.refutation)
answered problem question posed limit (Found other model) is reply = (subst (IsPosed problem question) (sym reply.0) is, subst (λ (value : PosedValue). IsModel value.clauses model) (sym reply.0) reply.1)

-- what is kept of clauses that were abandoned is a question that was given up
given_up : (problem : ProblemValue) (question : Question) (posed : PosedValue) (limit : ℕ) (stuck : Stuck) → IsAskable problem.implementation question → IsPosed problem question posed →
    stuck.question ≡ question → stuck.posed ≡ posed → IsLegal stuck.trace → IsSpent posed.clauses limit stuck.trace → IsGivenUp problem limit stuck
given_up problem question posed limit stuck askable is same_question same_posed legal spent =
    let there = subst (IsPosed problem question) (sym same_posed) is in
    let here = subst (λ (q : Question). IsPosed problem q stuck.posed) (sym same_question) there in
    record {
      askable = subst (IsAskable problem.implementation) (sym same_question) askable;
      asks = here.asks;
      shape = here.shape;
      reads = here.reads;
      few = here.few;
      legal = legal;
      spent = subst (λ (value : PosedValue). IsSpent value.clauses limit stuck.trace) (sym same_posed) spent;
    }

pub left_open : (problem : ProblemValue) (question : Question) (posed : PosedValue) (limit : ℕ) (left : Abandoned) (unfinished : Unfinished) → IsAskable problem.implementation question → IsPosed problem question posed →
    left.posed ≡ posed → IsLegal left.trace → IsSpent posed.clauses limit left.trace → IsLeftAs left question unfinished → IsLeft problem limit question unfinished
left_open problem question posed limit left (GivenUp stuck) askable is same legal spent (asked, kept_posed, kept_trace) = (
  asked,
  given_up problem question left.posed limit stuck.value askable (subst (IsPosed problem question) (sym same) is) asked kept_posed (subst IsLegal (sym kept_trace) legal)
      (subst (λ (value : PosedValue). IsSpent value.clauses limit stuck.value.trace) (sym same) (subst (IsSpent posed.clauses limit) (sym kept_trace) spent)),
)
left_open problem question posed limit left OutOfMemory askable is same legal spent kept = tt

-- where the question is one of the problem, nothing else is the cause
pub left_of_problem : (problem : ProblemValue) (question : Question) (limit : ℕ) (unfinished : Unfinished) → IsOfProblem problem NoneCompared question → IsLeft problem limit question unfinished → IsUnfinished problem NoneCompared limit unfinished
left_of_problem problem question limit (GivenUp stuck) of_problem left = record { of_problem = subst (IsOfProblem problem NoneCompared) (sym left.0) of_problem; given_up = left.1 }
left_of_problem problem question limit OutOfMemory of_problem left = tt
