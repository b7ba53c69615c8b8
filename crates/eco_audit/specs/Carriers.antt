-- Candidates, and what they can carry beside the parts of a bound that are judged so far.
use Rattle.std.specs.Prelude.{◌≡◌, ◌≢◌, ◌⊎◌, ℕ, ◌+◌, ◌<◌, Bool, true, false, List, [], ◌∷◌, ◌++◌, length, map, Some, All, Contains, slice_get}
use Rattle.std.specs.List.{slice_index_or}
use Rattle.eco_meaning.specs.Bound.{Part, IsLoad}
use Rattle.eco_meaning.specs.Circuit.{names}
use Rattle.eco_meaning.specs.Cost.{weight_of, IsCandidate}
use Rattle.eco_gates.specs.declared.gate.NetId.{NetId}
use Rattle.eco_netlist.specs.Netlists.{name_at}
use Rattle.eco_query.specs.Problem.{ProblemValue}
use Rattle.eco_audit.specs.declared.carrying.Carrier.{Carrier}
use Rattle.eco_audit.specs.declared.solution.Solution.{Solution}

-- ---- values

-- the values of the carrier's net are unlike in the two lists
abbrev pub IsUnlike : List Bool → List Bool → Carrier → Type 0
IsUnlike ones zeros c = slice_index_or ones c.net.0 false ≢ slice_index_or zeros c.net.0 false

-- where they are it can carry less by the amount, else as much
pub record IsPaid (ones zeros : List Bool) (amount : ℕ) (old new : Carrier) : Type 0 where
  pub net : new.net ≡ old.net
  pub spare : (IsUnlike ones zeros old × (new.spare + amount ≡ old.spare))
      ⊎ ((slice_index_or ones old.net.0 false ≡ slice_index_or zeros old.net.0 false) × (new.spare ≡ old.spare))

-- they are, and it can't carry the amount
abbrev pub IsShort : List Bool → List Bool → ℕ → Carrier → Type 0
IsShort ones zeros amount c = IsUnlike ones zeros c × (c.spare < amount)

-- each carrier has paid the amount
pub record ArePaid (ones zeros : List Bool) (amount : ℕ) (old new : List Carrier) : Type 0 where
  pub len : length new ≡ length old
  pub paid : (place : ℕ) (a b : Carrier) → slice_get old place ≡ Some a → slice_get new place ≡ Some b → IsPaid ones zeros amount a b

-- each has paid it, or some carrier is short of it
abbrev pub PaysAll : List Bool → List Bool → ℕ → List Carrier → List Carrier → Bool → Type 0
PaysAll ones zeros amount old new true = ArePaid ones zeros amount old new
PaysAll ones zeros amount old new false = (carrier : Carrier) × Contains old carrier × IsShort ones zeros amount carrier

-- ---- loads

-- the name of the carrier's net
abbrev pub carrier_name : Solution → Carrier → List ℕ
carrier_name s c = name_at (names s.problem.now.implementation) c.net.0

-- it is a candidate that can carry so much more than these parts
pub record IsCarrier (s : Solution) (parts : List Part) (c : Carrier) : Type 0 where
  pub net : c.net.0 < length (names s.problem.now.implementation)
  pub candidate : IsCandidate s.problem.now.implementation s.problem.now.weights s.problem.now.input_weight [] (carrier_name s c)
  pub load : ℕ
  pub sum : IsLoad s.problem.now.implementation s.patch.now (carrier_name s c) parts load
  pub weighs : weight_of s.problem.now.implementation s.problem.now.weights s.problem.now.input_weight (carrier_name s c)
      ≡ Some (load + c.spare)

-- they are all candidates, and can carry so much more than these parts
pub record AreCarriers (s : Solution) (parts : List Part) (carriers : List Carrier) : Type 0 where
  pub each : All (IsCarrier s parts) carriers
  pub all : (name : List ℕ) →
      IsCandidate s.problem.now.implementation s.problem.now.weights s.problem.now.input_weight [] name →
      (c : Carrier) × Contains carriers c × (carrier_name s c ≡ name)

-- some candidate carries more than it weighs
pub record IsOverloaded (s : Solution) (parts : List Part) : Type 0 where
  pub name : List ℕ
  pub candidate : IsCandidate s.problem.now.implementation s.problem.now.weights s.problem.now.input_weight [] name
  pub weight : ℕ
  pub weighs : weight_of s.problem.now.implementation s.problem.now.weights s.problem.now.input_weight name ≡ Some weight
  pub load : ℕ
  pub sum : IsLoad s.problem.now.implementation s.patch.now name parts load
  pub over : weight < load

-- carriers of some parts carry this one too, or with it some candidate carries too much
abbrev pub TakesOn : Solution → Part → List Carrier → List Carrier → Bool → Type 0
TakesOn s part old new true = (parts : List Part) → AreCarriers s parts old → AreCarriers s (parts ++ part ∷ []) new
TakesOn s part old new false = (parts : List Part) → AreCarriers s parts old → IsOverloaded s (parts ++ part ∷ [])

-- the carrier can carry the whole weight of its net
abbrev pub IsUnladen : ProblemValue → Carrier → Type 0
IsUnladen problem c =
    weight_of problem.implementation problem.weights problem.input_weight (name_at (names problem.implementation) c.net.0)
    ≡ Some c.spare

-- these are carriers of the nets, in order, that carry nothing yet
pub record AreUnladen (problem : ProblemValue) (nets : List NetId) (carriers : List Carrier) : Type 0 where
  pub nets_of : map (λ c. c.net) carriers ≡ nets
  pub unladen : All (IsUnladen problem) carriers
