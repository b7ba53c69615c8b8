-- Rows of turns that tell two inputs apart, and values of signals at known inputs.
use Rattle.std.specs.Prelude.{◌≡◌, ◌≢◌, ℕ, Bool, true, false, List, Some, Contains}
use Rattle.std.specs.List.{slice_get}
use Rattle.eco_meaning.specs.Circuit.{Circuit}
use Rattle.eco_meaning.specs.Meaning.{Goal}
use Rattle.eco_meaning.specs.Choice.{IsForced, AgreeAt, AreValues}
use Rattle.eco_floor.specs.Rows.{IsSetOf}
use Rattle.eco_least.specs.declared.sights.Sight.{Sight}

-- these are the values of the paid signals and of the turns at the input
pub record AreSeenAt (f p : Circuit) (earlier paid turns : List (List ℕ)) (input : List Bool) (sight : Sight) : Type 0 where
  pub paid_values : AreValues f p earlier paid input sight.paid
  pub turn_values : AreValues f p earlier turns input sight.turns

-- they are those at an input that forces the target to the bit
pub record IsSeenAt (f : Circuit) (goal : Goal) (p : Circuit) (earlier : List (List ℕ)) (target : List ℕ) (paid turns : List (List ℕ)) (bit : Bool) (sight : Sight) : Type 0 where
  pub input : List Bool
  pub forced : IsForced f goal p earlier target input bit
  pub seen : AreSeenAt f p earlier paid turns input sight

-- the paid signals have equal values at two inputs, and the row is the set of the turns that don't
pub record TellsApart (one zero : Sight) (row : List ℕ) : Type 0 where
  pub paid_same : one.paid ≡ zero.paid
  pub differ : IsSetOf (λ column. slice_get one.turns column ≢ slice_get zero.turns column) row

-- Two inputs, of which one forces the target to 1 and the other to 0, and at which the paid signals have equal values: so have
-- all turns whose columns the row doesn't have.
pub record IsRowAt (f : Circuit) (goal : Goal) (p : Circuit) (earlier : List (List ℕ)) (target : List ℕ) (paid turns : List (List ℕ)) (row : List ℕ) : Type 0 where
  pub one : List Bool
  pub zero : List Bool
  pub forced_one : IsForced f goal p earlier target one true
  pub forced_zero : IsForced f goal p earlier target zero false
  pub paid_alike : AgreeAt f p earlier (Contains paid) one zero
  pub others_alike : (k : ℕ) (name : List ℕ) → slice_get turns k ≡ Some name → (Contains row k → ⊥) →
      AgreeAt f p earlier (λ other. other ≡ name) one zero
