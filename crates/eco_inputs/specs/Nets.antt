-- The nets that the words name, to be cut together.
use Rattle.std.specs.Prelude.{◌≡◌, ◌≢◌, ◌⊎◌, ◌<◌, ◌≤◌, ◌++◌, ℕ, List, [], Option, Some, None, All, AllPairs, Contains, codes, decimal, length, take}
use Rattle.std.specs.List.{slice_get, slice_index_or}
use Rattle.eco_meaning.specs.Circuit.{Circuit, IsDriven, names}
use Rattle.eco_gates.specs.declared.gate.NetId.{NetId}
use Rattle.eco_netlist.specs.Netlists.{AreNets, name_at, names_at}
use Rattle.eco_outside.specs.Store.{Files}
use Rattle.eco_query.specs.declared.TheConstants.{MOST_TARGETS}
use Rattle.eco_change.specs.CutProblem.{CanBeCut}
use Rattle.eco_inputs.specs.declared.nets.NetFault.{NetFault}
use Rattle.eco_inputs.specs.declared.nets.NetFault.TheVariants.{TooMany, NoNet}
use Rattle.eco_inputs.specs.Rows.{Row, test_row}

-- these are different nets that gates drive
pub record AreDrivenNames (f : Circuit) (named : List (List ℕ)) : Type 0 where
  pub driven : All (IsDriven f) named
  pub once : AllPairs (λ a b. a ≢ b) named

-- the net at this place is the first that no gate drives, or that stands before it too
pub record IsFirstFault (f : Circuit) (named : List (List ℕ)) (place : ℕ) : Type 0 where
  pub name : List ℕ
  pub at : slice_get named place ≡ Some name
  pub front : AreDrivenNames f (take place named)
  pub fault : (IsDriven f name → ⊥) ⊎ Contains (take place named) name

-- there are too many; or there are few, and one of them is at fault
abbrev pub IsNetFault : Circuit → List (List ℕ) → NetFault → Type 0
IsNetFault f named (TooMany count) = (count ≡ length named) × (MOST_TARGETS < count)
IsNetFault f named (NoNet place) = (length named ≤ MOST_TARGETS) × IsFirstFault f named place

-- they can be cut together
abbrev pub CanBeCutTogether : Circuit → List (List ℕ) → Type 0
CanBeCutTogether f named = (length named ≤ MOST_TARGETS) × AreDrivenNames f named

-- the nets can't be cut together; or they can, and the value is passed on
abbrev pub nets_row : {Value : Type 0} → Circuit → List (List ℕ) → Value → Row (Option Files) NetFault Value
nets_row f named value = test_row (IsNetFault f named) (CanBeCutTogether f named) value

-- what is printed of a fault
abbrev pub net_fault_text : List (List ℕ) → NetFault → List ℕ
net_fault_text named (TooMany count) = codes "refused toomanynets " ++ decimal count ++ codes "\n"
net_fault_text named (NoNet place) = codes "refused net " ++ slice_index_or named place [] ++ codes "\n"

-- ---- between the stages

-- these nets of f have the names, in order, and can be cut
pub record AreNamed (f : Circuit) (named : List (List ℕ)) (nets : List NetId) : Type 0 where
  pub are : names_at (names f) nets ≡ named
  pub can : CanBeCut f nets

-- a net of f that a gate drives has the name
pub record IsDrivenNet (f : Circuit) (name : List ℕ) (net : NetId) : Type 0 where
  pub within : net.0 < length (names f)
  pub is : name_at (names f) net.0 ≡ name
  pub driven : IsDriven f name

-- the net of the name at this place, which doesn't stand before it too; or there is none
abbrev pub IsNext : Circuit → List (List ℕ) → ℕ → Option NetId → Type 0
IsNext f named place None =
    (name : List ℕ) × (slice_get named place ≡ Some name) × ((IsDriven f name → ⊥) ⊎ Contains (take place named) name)
IsNext f named place (Some net) =
    (name : List ℕ) × (slice_get named place ≡ Some name) × IsDrivenNet f name net × (Contains (take place named) name → ⊥)

-- the first names, so many of them, are those of these nets
pub record AreFirstNamed (f : Circuit) (named : List (List ℕ)) (count : ℕ) (nets : List NetId) : Type 0 where
  pub are : names_at (names f) nets ≡ take count named
  pub within : AreNets (names f) nets
  pub front : AreDrivenNames f (take count named)
