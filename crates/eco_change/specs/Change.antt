-- A change that is asked of a netlist without targets.
use Rattle.std.specs.Prelude.{◌+◌, ◌*◌, ◌≤◌, length}
use Rattle.eco_meaning.specs.Circuit.{Circuit, names}
use Rattle.eco_meaning.specs.Meaning.{Goal}
use Rattle.eco_netlist.specs.Netlists.{IsChecked}
use Rattle.eco_query.specs.declared.TheConstants.{MOST_NETS, MOST_TARGETS}
use Rattle.eco_query.specs.Problem.{IsClosed}
use Rattle.eco_query.specs.Pairing.{FitTogether}
use Rattle.eco_compile.specs.Goals.{IsGoalOf}

-- the netlist that is to be changed, and what is asked of it
pub record ChangeValue : Type 0 where
  pub old : Circuit
  pub goal : Goal

-- with two nets more for each net that may be cut, the netlist still has so few that it can be that of a problem
abbrev pub HasRoom : Circuit → Type 0
HasRoom f = length (names f) + 2 * MOST_TARGETS ≤ MOST_NETS

-- f is a checked netlist without targets of which the goal can be asked, the netlists fit together, and f has room for nets
-- that are cut
pub record IsChange (f : Circuit) (goal : Goal) : Type 0 where
  pub checked : IsChecked f
  pub closed : IsClosed f
  pub asked : IsGoalOf f goal
  pub fits : FitTogether f goal.spec goal.care
  pub room : HasRoom f
