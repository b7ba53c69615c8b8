-- Targets with patches of those before them, and what is asked of them.
use Rattle.std.specs.Prelude.{◌≡◌, ℕ, Bool, List, []}
use Rattle.eco_meaning.specs.Circuit.{Circuit, names}
use Rattle.eco_meaning.specs.Choice.{IsKept}
use Rattle.eco_meaning.specs.Cost.{AreTurns}
use Rattle.eco_meaning.specs.Patch.{OfTarget}
use Rattle.eco_gates.specs.declared.gate.NetId.{NetId}
use Rattle.eco_netlist.specs.Netlists.{AreNets, names_at}
use Rattle.eco_query.specs.Problem.{ProblemValue, HasTargetNumber}
use Rattle.eco_pose.specs.Questions.{AreRowsOf, AtTarget}
use Rattle.eco_desk.specs.Desks.{AreBefore}

-- the problem's implementation has the target, and the patch drives those before it and may stand in the implementation
pub record IsFrontOf (problem : ProblemValue) (target : ℕ) (patch : Circuit) : Type 0 where
  pub number : HasTargetNumber problem.implementation target
  pub before : AtTarget problem.implementation target (AreBefore problem.implementation patch)

-- and the patch leaves the implementation rectifiable; before the first target it has no gate
pub record IsKeptFront (problem : ProblemValue) (target : ℕ) (patch : Circuit) : Type 0 where
  pub front : IsFrontOf problem target patch
  pub kept : (before : List (List ℕ)) → IsKept problem.implementation problem.goal patch before
  pub first : target ≡ 0 → patch.gates ≡ []

-- the base are signals that the target's function may read, all but some
pub record IsBaseOf (problem : ProblemValue) (target : ℕ) (base : List NetId) : Type 0 where
  pub nets : AreNets (names problem.implementation) base
  pub left_out : List (List ℕ)
  pub turns : OfTarget problem.implementation target (λ earlier name.
      AreTurns problem.implementation problem.weights problem.input_weight earlier left_out (names_at (names problem.implementation) base))

-- each row has a bit for each target behind this one
pub record AreRests (problem : ProblemValue) (target : ℕ) (rests : List (List Bool)) : Type 0 where
  pub rows : AtTarget problem.implementation target (λ before name behind. AreRowsOf behind rests)
