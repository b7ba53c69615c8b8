-- Orders in which gates can be evaluated, and circles of gates.
use Rattle.std.specs.Prelude.{◌≡◌, ◌≢◌, ℕ, ◌<◌, List, length, take, slice_get, Some, All, AllPairs, Contains}
use Rattle.eco_gates.specs.declared.ordering.Arranged.{Arranged}
use Rattle.eco_gates.specs.declared.ordering.Arranged.TheVariants.{Order, Circle}
use Rattle.eco_gates.specs.GateValue.{GateValue}
use Rattle.eco_gates.specs.Gates.{ReadsOut}
use Rattle.eco_meaning.specs.Circuit.{IsCircle}

-- the number of each gate once, each behind the numbers of the gates whose outputs it reads
pub record IsOrder (gates : List GateValue) (order : List ℕ) : Type 0 where
  pub numbers : All (λ i. i < length gates) order
  pub complete : (i : ℕ) → i < length gates → Contains order i
  pub once : AllPairs (λ i j. i ≢ j) order
  pub behind : (k i j : ℕ) → slice_get order k ≡ Some i → ReadsOut gates j i → Contains (take k order) j

-- different gates, each of which reads the output of the one before it, and the first that of the last
pub record IsGateCircle (gates : List GateValue) (circle : List ℕ) : Type 0 where
  pub numbers : All (λ i. i < length gates) circle
  pub once : AllPairs (λ i j. i ≢ j) circle
  pub closed : IsCircle (ReadsOut gates) circle

-- an order of the gates, or a circle of them
abbrev pub IsArranged : List GateValue → Arranged → Type 0
IsArranged gates (Order order) = IsOrder gates order.items
IsArranged gates (Circle circle) = IsGateCircle gates circle.items
