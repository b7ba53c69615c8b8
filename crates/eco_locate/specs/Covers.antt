-- Inputs that take nets which others exclude.
use Rattle.std.specs.Prelude.{◌≡◌, ◌⊎◌, List, [], ◌++◌, All}
use Rattle.eco_meaning.specs.Circuit.{Circuit, names}
use Rattle.eco_meaning.specs.Meaning.{Goal}
use Rattle.eco_gates.specs.declared.gate.NetId.{NetId}
use Rattle.eco_netlist.specs.Netlists.{AreNets}
use Rattle.eco_locate.specs.declared.answer.Located.{Located}
use Rattle.eco_locate.specs.declared.covering.Cover.{Cover}
use Rattle.eco_locate.specs.Judged.{Excludes, excluded_nets}
use Rattle.eco_locate.specs.Moves.{IsRearranged}

-- these nets are those that are left and those that the inputs took, each of which excludes its own
pub record IsCover (f : Circuit) (goal : Goal) (all : List NetId) (cover : Cover) : Type 0 where
  pub moved : IsRearranged all (cover.left.items ++ excluded_nets cover.excluding.items)
  pub told : All (Excludes f goal) cover.excluding.items
  pub within : AreNets (names f) cover.left.items

-- the cover's inputs stand in the place of the others, if none of its nets is left; else nothing is changed
abbrev pub IsCoveredBy : Located → Cover → Located → Type 0
IsCoveredBy before cover after =
    ((cover.left.items ≡ []) × (after ≡ record before { excluding = cover.excluding })) ⊎ (after ≡ before)
