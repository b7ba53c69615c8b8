-- Numbers of nets, spread along the gates: to all nets behind them, or to all nets before them.
use Rattle.std.specs.Prelude.{◌≡◌, ◌⊎◌, ℕ, ◌<◌, ◌≤◌, List, [], ◌∷◌, length, slice_get, slice_index_or, slice_set, min, Some, Contains}
use Rattle.eco_gates.specs.declared.gate.NetId.{NetId}
use Rattle.eco_gates.specs.declared.gate.Term.{Term}
use Rattle.eco_gates.specs.declared.gate.Term.TheVariants.{Zero, One, Net}
use Rattle.eco_gates.specs.GateValue.{GateValue}
use Rattle.eco_gates.specs.Reach.{FanNet}

-- the number of a net
abbrev pub number_at : List ℕ → NetId → ℕ
number_at numbers net = slice_index_or numbers net.0 0

-- for each net the greatest start number of the nets in whose fan-out it lies, itself among them
pub record AreGreatest (gates : List GateValue) (starts numbers : List ℕ) : Type 0 where
  pub len : length numbers ≡ length starts
  pub reached : (net : NetId) → net.0 < length starts →
      (source : NetId) × (source.0 < length starts) × FanNet gates (source ∷ []) net × (number_at starts source ≡ number_at numbers net)
  pub greatest : (source net : NetId) → FanNet gates (source ∷ []) net → number_at starts source ≤ number_at numbers net

-- for each net the least start number of the nets in its fan-out, itself among them
pub record AreLeast (gates : List GateValue) (starts numbers : List ℕ) : Type 0 where
  pub len : length numbers ≡ length starts
  pub reached : (net : NetId) → net.0 < length starts →
      (end : NetId) × (end.0 < length starts) × FanNet gates (net ∷ []) end × (number_at starts end ≡ number_at numbers net)
  pub least : (net end : NetId) → FanNet gates (net ∷ []) end → number_at numbers net ≤ number_at starts end

-- the number of the net that a term reads, and 0 for a constant
abbrev pub term_number : List ℕ → Term → ℕ
term_number numbers Zero = 0
term_number numbers One = 0
term_number numbers (Net net) = number_at numbers net

-- the greatest of a number and of those that the first terms read
pub record IsGreatestRead (numbers : List ℕ) (own : ℕ) (terms : List Term) (count greatest : ℕ) : Type 0 where
  pub own_at_most : own ≤ greatest
  pub read : (k : ℕ) (term : Term) → k < count → slice_get terms k ≡ Some term → term_number numbers term ≤ greatest
  pub some : (own ≡ greatest) ⊎ ((net : NetId) × Contains terms (Net net) × (number_at numbers net ≡ greatest))

-- the nets that the first terms read have numbers of at most this one: theirs, or this one where it is less
pub record AreLowered (terms : List Term) (count most : ℕ) (old new : List ℕ) : Type 0 where
  pub len : length new ≡ length old
  pub lower : (net : NetId) → number_at new net ≤ number_at old net
  pub read : (k : ℕ) (net : NetId) → k < count → slice_get terms k ≡ Some (Net net) → number_at new net ≤ most
  pub some : (net : NetId) → (number_at new net ≡ number_at old net) ⊎ ((number_at new net ≡ most) × Contains terms (Net net))

-- the numbers, with that of the net that a term reads lowered to this one where it is greater
abbrev pub lowered_by : ℕ → List ℕ → Term → List ℕ
lowered_by most numbers Zero = numbers
lowered_by most numbers One = numbers
lowered_by most numbers (Net net) = slice_set numbers net.0 (min (number_at numbers net) most)
