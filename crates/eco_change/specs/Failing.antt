-- Wrong inputs with what is asked for at them.
use Rattle.std.specs.Prelude.{◌≡◌, Bool, List, Option, Some, None}
use Rattle.eco_meaning.specs.Circuit.{Circuit}
use Rattle.eco_meaning.specs.Meaning.{Goal, IsWrong}
use Rattle.eco_change.specs.declared.failing.Failing.{Failing}
use Rattle.eco_change.specs.Asked.{AreWanted}

-- the input is wrong, and these outputs are asked for there
pub record IsFailing (f : Circuit) (goal : Goal) (failing : Failing) : Type 0 where
  pub wrong : IsWrong f goal failing.input
  pub asked : AreWanted f goal failing.input failing.wanted

-- the input x is this wrong one; or it isn't wrong
abbrev pub TellsFailing : Circuit → Goal → List Bool → Option Failing → Type 0
TellsFailing f goal x (Some failing) = (failing.input ≡ x) × IsFailing f goal failing
TellsFailing f goal x None = IsWrong f goal x → ⊥
