-- The question whether the old netlist meets the specification.
use Rattle.std.proofs.Common.{◌≡◌, Option, sym, subst}
use Rattle.eco_meaning.specs.Circuit.{Circuit}
use Rattle.eco_meaning.specs.Meaning.{Goal}
use Rattle.eco_compile.specs.Goals.{IsGoalOf}
use Rattle.eco_pose.specs.declared.question.Question.{Question}
use Rattle.eco_pose.specs.declared.question.Question.TheVariants as questions
use Rattle.eco_change.specs.Change.{IsChange}

-- it can be asked of what is equal to the parts of a change
pub goal_of_parts : (f h right : Circuit) (goal : Goal) (care : Option Circuit) → IsChange f goal → h ≡ f → right ≡ goal.spec → care ≡ goal.care → IsGoalOf h (record { spec = right; care = care })
goal_of_parts f h right goal care is old spec cared =
    subst (λ (k : Option Circuit). IsGoalOf h (record { spec = right; care = k })) (sym cared)
    (subst (λ (r : Circuit). IsGoalOf h (record { spec = r; care = goal.care })) (sym spec) (subst (λ (n : Circuit). IsGoalOf n goal) (sym old) is.asked))

-- and what is said of their question is said of the one of the change
pub question_of_parts : (P : Question → Type 0) (f h right : Circuit) (goal : Goal) (care : Option Circuit) → h ≡ f → right ≡ goal.spec → care ≡ goal.care → P (questions.Equal h right care) → P (questions.Equal f goal.spec goal.care)
question_of_parts P f h right goal care old spec cared is =
    subst (λ (n : Circuit). P (questions.Equal n goal.spec goal.care)) old
    (subst (λ (r : Circuit). P (questions.Equal h r goal.care)) spec (subst (λ (k : Option Circuit). P (questions.Equal h right k)) cared is))
