-- What is found of each net that a gate drives.
use Rattle.std.specs.Prelude.{◌≢◌, ℕ, ◌<◌, Bool, List, [], ◌∷◌, ◌++◌, length, map, All, AllPairs, Contains}
use Rattle.std.specs.List.{flat_map}
use Rattle.eco_meaning.specs.Circuit.{Circuit, names, IsDriven}
use Rattle.eco_meaning.specs.Meaning.{Goal, IsWrong}
use Rattle.eco_choices.specs.Choices.{IsWrongBut, IsChoice}
use Rattle.eco_gates.specs.declared.gate.NetId.{NetId}
use Rattle.eco_netlist.specs.Netlists.{AreNets, name_at}
use Rattle.eco_locate.specs.declared.answer.Excluding.{Excluding}
use Rattle.eco_locate.specs.declared.answer.Located.{Located}
use Rattle.eco_locate.specs.declared.answer.Open.{Open}
use Rattle.eco_locate.specs.Moves.{IsRearranged}
use Rattle.eco_locate.specs.Questions.{IsGivenUpOn}
use Rattle.eco_locate.specs.Comparing.{NoneIsWrong}
use Rattle.eco_locate.specs.declared.answer.Answer.{Answer}
use Rattle.eco_locate.specs.declared.answer.Answer.TheVariants as answers

-- cutting this net suffices
abbrev pub IsListed : Circuit → Goal → NetId → Type 0
IsListed f goal net = IsChoice f goal (name_at (names f) net.0 ∷ [])

-- the question about this net was given up within the limit
abbrev pub IsOver : Circuit → Goal → ℕ → Open → Type 0
IsOver f goal limit over = IsGivenUpOn f goal limit (name_at (names f) over.net.0 ∷ []) over.stuck

-- the input is wrong, and it stays wrong with any one of these nets cut
pub record Excludes (f : Circuit) (goal : Goal) (excluding : Excluding) : Type 0 where
  pub wrong : IsWrong f goal excluding.input
  pub still : All (λ net. IsWrongBut f goal (name_at (names f) net.0 ∷ []) excluding.input) excluding.nets.items

-- the nets that inputs exclude
abbrev pub excluded_nets : List Excluding → List NetId
excluded_nets excluding = flat_map (λ e. e.nets.items) excluding

-- the nets of three lists
abbrev pub nets_in : Located → List NetId
nets_in located = located.listed.items ++ (map (λ o. o.net) located.over.items ++ excluded_nets located.excluding.items)

-- these are the nets that gates drive, each once
pub record AreDrivenNets (f : Circuit) (nets : List NetId) : Type 0 where
  pub within : AreNets (names f) nets
  pub once : AllPairs (λ a b. a ≢ b) nets
  pub driven : All (λ net. IsDriven f (name_at (names f) net.0)) nets
  pub complete : (net : NetId) → net.0 < length (names f) → IsDriven f (name_at (names f) net.0) → Contains nets net

-- what is told of the nets in three lists is true
pub record IsTold (f : Circuit) (goal : Goal) (limit : ℕ) (located : Located) : Type 0 where
  pub choices : All (IsListed f goal) located.listed.items
  pub given_up : All (IsOver f goal limit) located.over.items
  pub excluded : All (Excludes f goal) located.excluding.items

-- each net that a gate drives is in one of the lists, once, and what is told of it is true
pub record IsJudged (f : Circuit) (goal : Goal) (limit : ℕ) (located : Located) : Type 0 where
  pub all : AreDrivenNets f (nets_in located)
  pub told : IsTold f goal limit located

-- so far: the nets that are left and those in the lists are the driven nets
pub record IsJudgedTo (f : Circuit) (goal : Goal) (limit : ℕ) (left : List NetId) (located : Located) : Type 0 where
  pub driven : List NetId
  pub are : AreDrivenNets f driven
  pub moved : IsRearranged driven (left ++ nets_in located)
  pub told : IsTold f goal limit located

-- what is told of f: no input is wrong; or some input is, and this is found of the nets
abbrev pub TellsAnswer : Circuit → Goal → ℕ → Answer → Type 0
TellsAnswer f goal limit answers.Equal = NoneIsWrong f goal
TellsAnswer f goal limit (answers.Located located) = ((x : List Bool) × IsWrong f goal x) × IsJudged f goal limit located
