-- A target whose base is chosen, and the weights of its turns.
use Rattle.std.specs.Prelude.{◌≡◌, ℕ, Bool, true, false, List, [], ◌∷◌, map, unwrap_or}
use Rattle.eco_meaning.specs.Circuit.{names}
use Rattle.eco_meaning.specs.Cost.{AreTurns, weight_of}
use Rattle.eco_gates.specs.declared.gate.NetId.{NetId}
use Rattle.eco_netlist.specs.Netlists.{AreNets, name_at}
use Rattle.eco_query.specs.Problem.{ProblemValue, HasTargetNumber}
use Rattle.eco_pose.specs.Questions.{AtTarget}
use Rattle.eco_base.specs.Chosen.{IsBaseOf, IsChosen}
use Rattle.eco_base.specs.Walks.{IsWalked}
use Rattle.eco_base.specs.declared.choosing.Chosen.{Chosen}
use Rattle.eco_least.specs.Least.{IsLeastCost}
use Rattle.eco_base.specs.Targets.{AreReadableAt, TargetValue, named_in, paid_of}
use Rattle.eco_least.specs.declared.weighed.Weighed.{Weighed}
use Rattle.eco_least.specs.Rows.{turn_names}

abbrev pub weight_at : ProblemValue → NetId → ℕ
weight_at problem net =
    unwrap_or (weight_of problem.implementation problem.weights problem.input_weight (name_at (names problem.implementation) net.0)) 0

-- the turns are those of the target's candidates that aren't paid, with their weights
pub record AreWeighed (t : TargetValue) (weighed : Weighed) : Type 0 where
  pub number : HasTargetNumber t.problem.implementation t.number
  pub paid_nets : AreNets (names t.problem.implementation) t.paid
  pub turn_nets : AreNets (names t.problem.implementation) weighed.turns.items
  pub readable : AreReadableAt t t.paid
  pub are_turns : AtTarget t.problem.implementation t.number (λ before target behind.
      AreTurns t.problem.implementation t.problem.weights t.problem.input_weight before (paid_of t) (turn_names t weighed))
  pub weights : weighed.weights.items ≡ map (weight_at t.problem) weighed.turns.items

-- those of the nets that are marked
abbrev pub marked_of : List NetId → List Bool → List NetId
marked_of [] marks = []
marked_of (net ∷ nets) [] = []
marked_of (net ∷ nets) (true ∷ marks) = net ∷ marked_of nets marks
marked_of (net ∷ nets) (false ∷ marks) = marked_of nets marks

-- the base is found for the target; it is the greedy choice; it is the choice where these nets have their turns last
pub record IsBase (t : TargetValue) (chosen : Chosen) : Type 0 where
  pub found : IsBaseOf t.problem t.number t.patches (paid_of t) chosen

abbrev pub IsGreedyChoice : TargetValue → Chosen → Type 0
IsGreedyChoice t chosen = IsChosen t.problem t.number t.patches (paid_of t) chosen

abbrev pub IsWalkedLast : TargetValue → List NetId → Chosen → Type 0
IsWalkedLast t last chosen =
    IsWalked t.problem t.number t.patches (paid_of t) (named_in t last) chosen

-- any base of the target costs so much at least
abbrev pub IsLeast : TargetValue → ℕ → Type 0
IsLeast t least = IsLeastCost t.problem t.number t.patches (paid_of t) least
