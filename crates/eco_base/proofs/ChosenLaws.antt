-- What the question is that a chosen base comes with.
use Rattle.std.proofs.Common.{ℕ, List, ◌∷◌, ◌++◌, refl, subst}
use Rattle.eco_meaning.specs.Circuit.{Circuit, AreTargets}
use Rattle.eco_query.specs.Problem.{ProblemValue}
use Rattle.eco_pose.specs.Answers.{AsksSeparate}
use Rattle.eco_base.specs.declared.choosing.Chosen.{Chosen}
use Rattle.eco_base.specs.Chosen.{IsBaseFound, chosen_names}

-- it asks for two inputs at which all signals of the base have equal values
pub asks_of_chosen : (problem : ProblemValue) (patches : Circuit) (paid before : List (List ℕ)) (target : List ℕ) (behind : List (List ℕ)) (chosen : Chosen) →
    AreTargets problem.implementation (before ++ target ∷ behind) → (is : IsBaseFound problem patches paid before target behind chosen) →
    AsksSeparate problem.implementation problem.goal patches before target behind is.rests (paid ++ chosen_names problem.implementation chosen.new.items) chosen.posed
asks_of_chosen problem patches paid before target behind chosen are is =
    subst (λ list. AsksSeparate problem.implementation problem.goal patches before target behind is.rests list chosen.posed) is.base_are (is.posed.asks before target behind are refl)
