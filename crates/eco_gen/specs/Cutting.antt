-- How many gates and targets a drawn netlist may have.
use Rattle.std.specs.Prelude.{ℕ, ◌≤◌}
use Rattle.eco_gen.specs.declared.TheConstants.{MOST_GATES, MOST_CUTS}

-- a netlist may have these numbers of gates and of targets, perhaps none
pub record MayCut (size targets : ℕ) : Type 0 where
  pub few_gates : size ≤ MOST_GATES
  pub few_targets : targets ≤ MOST_CUTS
  pub room : targets ≤ size
