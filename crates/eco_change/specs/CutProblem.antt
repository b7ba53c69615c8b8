-- The problem of a netlist with nets cut.
use Rattle.std.specs.Prelude.{◌≡◌, ◌≤◌, ◌≢◌, ℕ, List, length, map, All, AllPairs}
use Rattle.eco_meaning.specs.Circuit.{Circuit, IsDriven, names}
use Rattle.eco_meaning.specs.Meaning.{Goal}
use Rattle.eco_gates.specs.declared.gate.NetId.{NetId}
use Rattle.eco_netlist.specs.Netlists.{AreNets, name_at, names_at}
use Rattle.eco_query.specs.declared.TheConstants.{MOST_TARGETS}
use Rattle.eco_query.specs.Problem.{ProblemValue}
use Rattle.eco_cutting.specs.Cuts.{Cut, AreCuts, IsCut, cut_of}

-- different nets of f that gates drive, no more than a problem may have targets
pub record CanBeCut (f : Circuit) (nets : List NetId) : Type 0 where
  pub within : AreNets (names f) nets
  pub driven : All (λ net. IsDriven f (name_at (names f) net.0)) nets
  pub once : AllPairs (λ a b. a ≢ b) (names_at (names f) nets)
  pub few : length nets ≤ MOST_TARGETS

-- m is f with a cut of these nets, in their order
pub record IsCutBy (f : Circuit) (nets : List (List ℕ)) (m : Circuit) : Type 0 where
  pub cuts : List Cut
  pub can_be : AreCuts f cuts
  pub named : map (λ c. c.net) cuts ≡ nets
  pub made : m ≡ cut_of f cuts

-- the implementation of the problem is f with these nets cut, and the goal is asked of it
pub record IsCutProblem (f : Circuit) (goal : Goal) (nets : List (List ℕ)) (problem : ProblemValue) : Type 0 where
  pub cut : IsCut f nets problem.implementation
  pub same : problem.goal ≡ goal
