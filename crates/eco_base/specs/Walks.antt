-- Walks through the signals in another order of turns, and what is known on the way.
use Rattle.std.specs.Prelude.{◌≡◌, ℕ, Bool, true, false, not, List, ◌++◌, map, All}
use Rattle.std.specs.List.{filter, AllZip, slice_index_or}
use Rattle.eco_meaning.specs.Names.{has}
use Rattle.eco_meaning.specs.Circuit.{Circuit}
use Rattle.eco_meaning.specs.Choice.{IsForced, IsGreedy, AreValues}
use Rattle.eco_meaning.specs.Cost.{AreTurns}
use Rattle.eco_gates.specs.declared.gate.NetId.{NetId}
use Rattle.eco_netlist.specs.Values.{AreValuesAt}
use Rattle.eco_query.specs.Problem.{ProblemValue}
use Rattle.eco_pose.specs.Questions.{AtTarget}
use Rattle.eco_base.specs.Chosen.{IsBaseFound, chosen_names}
use Rattle.eco_base.specs.declared.choosing.Chosen.{Chosen}
use Rattle.eco_base.specs.declared.known.Known.{Known}

-- the inputs force the target to 1 and to 0
pub record IsKnownAt (problem : ProblemValue) (patches : Circuit) (before : List (List ℕ)) (target : List ℕ) (known : Known) : Type 0 where
  pub ones : All (λ x. IsForced problem.implementation problem.goal patches before target x true) known.ones.items
  pub zeros : All (λ x. IsForced problem.implementation problem.goal patches before target x false) known.zeros.items

-- so they do with the target of this number
abbrev pub AreKnownFor : ProblemValue → ℕ → Circuit → Known → Type 0
AreKnownFor problem i patches known =
    AtTarget problem.implementation i (λ before target behind. IsKnownAt problem patches before target known)

-- the signals in their order, but some of them behind all others
abbrev pub put_last : List (List ℕ) → List (List ℕ) → List (List ℕ)
put_last last turns = filter (λ name. not (has last name)) turns ++ filter (has last) turns

-- the base is found, and it is the greedy choice where these signals have their turns last
pub record IsWalkedAt (problem : ProblemValue) (patches : Circuit) (paid last before : List (List ℕ)) (target : List ℕ) (behind : List (List ℕ)) (chosen : Chosen) : Type 0 where
  pub found : IsBaseFound problem patches paid before target behind chosen
  pub turns : List (List ℕ)
  pub are_turns : AreTurns problem.implementation problem.weights problem.input_weight before paid turns
  pub walked : IsGreedy problem.implementation problem.goal patches before target paid (put_last last turns)
      (chosen_names problem.implementation chosen.new.items)

-- so it is of the target of this number
abbrev pub IsWalked : ProblemValue → ℕ → Circuit → List (List ℕ) → List (List ℕ) → Chosen → Type 0
IsWalked problem i patches paid last chosen =
    AtTarget problem.implementation i (λ before target behind. IsWalkedAt problem patches paid last before target behind chosen)

-- each row has the values of the signals at its input, where the patches drive the targets before that of this number
abbrev pub AreRowsAt : ProblemValue → ℕ → Circuit → List (List ℕ) → List (List Bool) → List (List Bool) → Type 0
AreRowsAt problem i patches signals inputs rows =
    AtTarget problem.implementation i (λ before target behind. AllZip (AreValues problem.implementation patches before signals) inputs rows)

-- the row has the bits of the nets in a map of the netlist at the input x
pub record IsRowOf (n : Circuit) (nets : List NetId) (x row : List Bool) : Type 0 where
  pub values : List Bool
  pub are : AreValuesAt n x values
  pub read : row ≡ map (λ net. slice_index_or values net.0 false) nets
