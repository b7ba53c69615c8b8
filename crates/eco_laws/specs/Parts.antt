-- What is meant by: what is said of the earlier targets stands for each patch that has the same functions for them.
use Rattle.std.specs.Prelude.{◌↔◌, ℕ, Bool, List, All, Contains}
use Rattle.eco_meaning.specs.Circuit.{Circuit, Values, IsConsistent, AgreeOn}
use Rattle.eco_meaning.specs.Meaning.{Goal}
use Rattle.eco_meaning.specs.Cost.{Weights}
use Rattle.eco_meaning.specs.Choice.{IsReached, IsForced, IsLost, IsKept, AgreeAt, Suffices, IsNeeded, IsGreedyBase, AreValues}
use Rattle.eco_laws.specs.Kept.{TakesAnyInputs}

-- the patch q reads what p reads, and has p's functions for the earlier targets
pub record IsPartOf (p q : Circuit) (earlier : List (List ℕ)) : Type 0 where
  pub reads : (name : List ℕ) → Contains p.inputs name → Contains q.inputs name
  pub alike : (w o : Values) → IsConsistent p w → IsConsistent q o → AgreeOn p.inputs w o → AgreeOn earlier w o

-- a part of a part is a part
abbrev pub PartsOfParts : Type 0
PartsOfParts =
    (p q r : Circuit) (earlier more : List (List ℕ)) → TakesAnyInputs q → All (Contains more) earlier →
    IsPartOf p q earlier → IsPartOf q r more → IsPartOf p r earlier

-- both patches leave the same maps, as far as the earlier targets go
abbrev pub LeavesTheSame : Circuit → Circuit → Circuit → List (List ℕ) → Type 0
LeavesTheSame f p q earlier = (x : List Bool) (v : Values) → IsReached f p earlier x v ↔ IsReached f q earlier x v

-- a patch and its part leave the same maps
abbrev pub PartsLeaveTheSame : Type 0
PartsLeaveTheSame =
    (f p q : Circuit) (earlier : List (List ℕ)) → TakesAnyInputs p → TakesAnyInputs q → IsPartOf p q earlier →
    LeavesTheSame f p q earlier

-- what stands with the patch p stands with q
pub record CarriesOver (f p q : Circuit) (earlier : List (List ℕ)) : Type 0 where
  pub forced : (goal : Goal) (target : List ℕ) (x : List Bool) (bit : Bool) →
      IsForced f goal p earlier target x bit → IsForced f goal q earlier target x bit
  pub lost : (goal : Goal) (x : List Bool) → IsLost f goal p earlier x → IsLost f goal q earlier x
  pub kept : (goal : Goal) → IsKept f goal p earlier → IsKept f goal q earlier
  pub agree : (signals : List (List ℕ)) (x y : List Bool) →
      AgreeAt f p earlier (Contains signals) x y → AgreeAt f q earlier (Contains signals) x y
  pub suffices : (goal : Goal) (target : List ℕ) (signals : List (List ℕ)) →
      Suffices f goal p earlier target (Contains signals) → Suffices f goal q earlier target (Contains signals)
  pub needed : (goal : Goal) (target : List ℕ) (base : List (List ℕ)) (name : List ℕ) (x y : List Bool) →
      IsNeeded f goal p earlier target base name x y → IsNeeded f goal q earlier target base name x y
  pub greedy : (goal : Goal) (w : Weights) (input_weight : ℕ) (target : List ℕ) (paid kept : List (List ℕ)) →
      IsGreedyBase f goal w input_weight p earlier target paid kept →
      IsGreedyBase f goal w input_weight q earlier target paid kept
  pub values : (signals : List (List ℕ)) (x bits : List Bool) →
      AreValues f p earlier signals x bits → AreValues f q earlier signals x bits

-- patches that leave the same maps are alike in all that is said of the earlier targets
abbrev pub ChoicesCarryOver : Type 0
ChoicesCarryOver = (f p q : Circuit) (earlier : List (List ℕ)) → LeavesTheSame f p q earlier → CarriesOver f p q earlier × CarriesOver f q p earlier
