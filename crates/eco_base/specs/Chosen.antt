-- What choosing the base of a target answers.
use Rattle.std.specs.Prelude.{◌≡◌, ℕ, ◌++◌, List, Bool, length, map, All}
use Rattle.eco_meaning.specs.Circuit.{Circuit, names}
use Rattle.eco_meaning.specs.Choice.{IsKept, IsNeeded, IsGreedyBase}
use Rattle.eco_meaning.specs.Cost.{IsCandidate, IsUnpaid}
use Rattle.eco_gates.specs.declared.gate.NetId.{NetId}
use Rattle.eco_netlist.specs.Netlists.{AreNets, names_at, name_at}
use Rattle.eco_trace.specs.Verdicts.{IsRefutation}
use Rattle.eco_query.specs.Problem.{ProblemValue}
use Rattle.eco_pose.specs.Questions.{AtTarget, AreRowsOf, AreDistinct}
use Rattle.eco_pose.specs.Stuck.{IsPosed}
use Rattle.eco_pose.specs.declared.question.Question.TheVariants.{Separate}
use Rattle.eco_desk.specs.Desks.{AreBefore}
use Rattle.eco_base.specs.declared.based.Based.{Based}
use Rattle.eco_base.specs.declared.choosing.Chosen.{Chosen}

-- the patches drive the targets before this one and keep f rectifiable, and the paid signals are candidates of it, each once
pub record IsReadyToChoose (problem : ProblemValue) (patches : Circuit) (paid before : List (List ℕ)) (target : List ℕ) (behind : List (List ℕ)) : Type 0 where
  pub patch : AreBefore problem.implementation patches before target behind
  pub kept : IsKept problem.implementation problem.goal patches before
  pub candidates : All (IsCandidate problem.implementation problem.weights problem.input_weight before) paid
  pub distinct : AreDistinct paid

-- the names of the signals that are chosen
abbrev pub chosen_names : Circuit → List Based → List (List ℕ)
chosen_names f new = names_at (names f) (map (λ based. based.net) new)

-- The new signals are nets of the implementation, and each comes with two inputs that show that it is needed. The refutation is
-- that of a question for two inputs on which all these signals, the paid ones first, have equal values, as far as some rests tell.
pub record IsBaseFound (problem : ProblemValue) (patches : Circuit) (paid before : List (List ℕ)) (target : List ℕ) (behind : List (List ℕ)) (chosen : Chosen) : Type 0 where
  pub nets : AreNets (names problem.implementation) (map (λ based. based.net) chosen.new.items)
  pub candidates : All (IsUnpaid problem.implementation problem.weights problem.input_weight before paid) (chosen_names problem.implementation chosen.new.items)
  pub once : AreDistinct (chosen_names problem.implementation chosen.new.items)
  pub needed : All (λ based. IsNeeded problem.implementation problem.goal patches before target
      (paid ++ chosen_names problem.implementation chosen.new.items) (name_at (names problem.implementation) based.net.0)
      based.one based.zero) chosen.new.items
  pub rests : List (List Bool)
  pub rows : AreRowsOf behind rests
  pub distinct : AreDistinct rests
  pub base : List NetId
  pub base_are : names_at (names problem.implementation) base ≡ paid ++ chosen_names problem.implementation chosen.new.items
  pub posed : IsPosed problem (Separate (length before) patches base rests) chosen.posed
  pub refuted : IsRefutation chosen.posed.clauses chosen.trace

-- so it is of the target of this number
abbrev pub IsBaseOf : ProblemValue → ℕ → Circuit → List (List ℕ) → Chosen → Type 0
IsBaseOf problem i patches paid chosen =
    AtTarget problem.implementation i (λ before target behind. IsBaseFound problem patches paid before target behind chosen)

-- and the signals are the greedy choice beside the paid ones
pub record IsBaseChosen (problem : ProblemValue) (patches : Circuit) (paid before : List (List ℕ)) (target : List ℕ) (behind : List (List ℕ)) (chosen : Chosen) : Type 0 where
  pub found : IsBaseFound problem patches paid before target behind chosen
  pub greedy : IsGreedyBase problem.implementation problem.goal problem.weights problem.input_weight patches before target paid
      (chosen_names problem.implementation chosen.new.items)

-- so it is of the target of this number
abbrev pub IsChosen : ProblemValue → ℕ → Circuit → List (List ℕ) → Chosen → Type 0
IsChosen problem i patches paid chosen =
    AtTarget problem.implementation i (λ before target behind. IsBaseChosen problem patches paid before target behind chosen)
