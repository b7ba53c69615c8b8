-- The question whether a patched netlist has the specification's outputs.
use Rattle.std.proofs.Common.{◌≡◌, ◌↔◌, ℕ, List, Option, sym, subst}
use Rattle.std.specs.List.{Contains}
use Rattle.eco_meaning.specs.Circuit.{Circuit}
use Rattle.eco_meaning.specs.Meaning.{Goal}
use Rattle.eco_laws.specs.Kept.{CaresForInputs}
use Rattle.eco_query.specs.Problem.{ProblemValue, IsProblem}
use Rattle.eco_compile.specs.Goals.{IsGoalOf}
use Rattle.eco_compile.proofs.Problems.{goal_of_problem}
use Rattle.eco_pose.specs.declared.question.Question.{Question}
use Rattle.eco_pose.specs.declared.question.Question.TheVariants as questions
use Rattle.eco_pose.specs.declared.asking.Asked.{Asked}
use Rattle.eco_pose.specs.declared.asking.Asked.TheVariants as asked
use Rattle.eco_pose.specs.Stuck.{IsAnswered, CanBeRead}

-- what is asked of f can be asked of a netlist with its ports
goal_of_other : (f out : Circuit) (goal : Goal) → out.inputs ≡ f.inputs → out.outputs ≡ f.outputs → IsGoalOf f goal → IsGoalOf out goal
goal_of_other f out goal inputs outputs is = record {
  checked = is.checked;
  inputs = subst (λ (l : List (List ℕ)). (name : List ℕ) → Contains l name ↔ Contains goal.spec.inputs name) (sym inputs) is.inputs;
  outputs = subst (λ (l : List (List ℕ)). (name : List ℕ) → Contains l name ↔ Contains goal.spec.outputs name) (sym outputs) is.outputs;
  closed = is.closed;
  care = λ c some.
      let cared = is.care c some in
      record {
        checked = cared.checked;
        inputs = subst (λ (l : List (List ℕ)). (name : List ℕ) → Contains l name ↔ Contains c.inputs name) (sym inputs) cared.inputs;
        one_output = cared.one_output;
        closed = cared.closed;
      };
}

-- what is said of the question of these netlists is said of that of equal ones
pub same_question : (P : Question → Type 0) (left right spec : Circuit) (care cared : Option Circuit) → right ≡ spec → care ≡ cared → P (questions.Equal left right care) → P (questions.Equal left spec cared)
same_question P left right spec care cared same_right same_care is =
    subst (λ k. P (questions.Equal left spec k)) same_care (subst (λ r. P (questions.Equal left r care)) same_right is)

-- what is asked of the problem can be asked of it
pub goal_of_out : (problem : ProblemValue) (out right : Circuit) (care : Option Circuit) → IsProblem problem.implementation problem.goal → out.inputs ≡ problem.implementation.inputs → out.outputs ≡ problem.implementation.outputs →
    right ≡ problem.goal.spec → care ≡ problem.goal.care → IsGoalOf out (record { spec = right; care = care })
goal_of_out problem out right care is inputs outputs same_right same_care =
    subst (λ (k : Option Circuit). IsGoalOf out (record { spec = right; care = k })) (sym same_care)
    (subst (λ (r : Circuit). IsGoalOf out (record { spec = r; care = problem.goal.care })) (sym same_right)
    (goal_of_other problem.implementation out problem.goal inputs outputs (goal_of_problem problem.implementation problem.goal is)))

-- the inputs of the cared netlist are those of the patched one
pub cares_for : (problem : ProblemValue) (out : Circuit) → IsProblem problem.implementation problem.goal → out.inputs ≡ problem.implementation.inputs → CaresForInputs out problem.goal
cares_for problem out is inputs = λ care some name c.
    subst (λ (l : List (List ℕ)). Contains l name) (sym inputs) (((is.care care some).inputs name).1 c)

-- a model of the clauses has a value for each variable
pub can_be_read : (problem : ProblemValue) (question : Question) (answer : Asked) → IsAnswered problem question answer → CanBeRead answer
can_be_read problem question (asked.Never posed trace) answered = tt
can_be_read problem question (asked.Found posed model) answered = answered.1.complete
