-- The instance for a seed, a number of gates and a number of targets.
use Rattle.std.specs.Prelude.{◌≡◌, ℕ, ◌≤◌}
use Rattle.eco_meaning.specs.Meaning.{everywhere}
use Rattle.eco_query.specs.Problem.{ProblemValue}
use Rattle.eco_gen.specs.declared.TheConstants.{MOST_GATES, MOST_CUTS}
use Rattle.eco_gen.specs.Drawn.{drawn_netlist, drawn_weights}

-- an instance may have these numbers of gates and of targets: each target cuts a gate of its own
pub record CanDraw (size targets : ℕ) : Type 0 where
  pub some_gates : 1 ≤ size
  pub few_gates : size ≤ MOST_GATES
  pub some_targets : 1 ≤ targets
  pub few_targets : targets ≤ MOST_CUTS
  pub room : targets ≤ size

-- the implementation is the netlist with the gates of the targets cut loose, the specification the whole one; every input
-- has a line among the weights
abbrev pub drawn_problem : ℕ → ℕ → ℕ → ProblemValue
drawn_problem seed size targets = record {
  implementation = drawn_netlist seed size targets;
  goal = everywhere (drawn_netlist seed size 0);
  weights = drawn_weights seed size targets;
  input_weight = 1;
}

abbrev pub IsDrawnProblem : ℕ → ℕ → ℕ → ProblemValue → Type 0
IsDrawnProblem seed size targets problem = problem ≡ drawn_problem seed size targets
