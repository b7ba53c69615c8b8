-- What is asked of a netlist at an input, and whether it is wrong there.
use Rattle.std.specs.Prelude.{◌≡◌, Bool, true, false, List, Option, Some, None, length, map}
use Rattle.eco_meaning.specs.Circuit.{Circuit, Values, names}
use Rattle.eco_meaning.specs.Meaning.{Goal, IsCared, IsWrong}
use Rattle.eco_netlist.specs.Netlists.{bit_of}
use Rattle.eco_choices.specs.Turned.{AreAsked}

-- there is one bit for each net of the netlist
abbrev pub AreBits : Circuit → List Bool → Type 0
AreBits n bits = map (bit_of (names n) bits) (names n) ≡ bits

-- whether the inputs that v gives are cared
abbrev pub TellsCared : Option Circuit → Values → Bool → Type 0
TellsCared care v true = IsCared care v
TellsCared care v false = IsCared care v → ⊥

-- these outputs of f, one bit for each, are asked for at the input x
pub record AreWanted (f : Circuit) (goal : Goal) (x wanted : List Bool) : Type 0 where
  pub asked : AreAsked f goal x wanted
  pub len : length wanted ≡ length f.outputs

-- these outputs are asked for at the input x; without any, the input isn't cared
abbrev pub TellsAsked : Circuit → Goal → List Bool → Option (List Bool) → Type 0
TellsAsked f goal x (Some wanted) = AreWanted f goal x wanted
TellsAsked f goal x None = (v : Values) → map v f.inputs ≡ x → IsCared goal.care v → ⊥

-- the input x is wrong, and these outputs are asked for there; without any, the input isn't wrong
abbrev pub TellsWrong : Circuit → Goal → List Bool → Option (List Bool) → Type 0
TellsWrong f goal x (Some wanted) = IsWrong f goal x × AreWanted f goal x wanted
TellsWrong f goal x None = IsWrong f goal x → ⊥
