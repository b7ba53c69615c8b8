-- What is meant by: candidates have values at each input, and a function of them with the forced bits is one that a target
-- can have.
use Rattle.std.specs.Prelude.{◌≡◌, ◌↔◌, ℕ, Bool, List, [], ◌∷◌, ◌++◌, length, map, All, Contains}
use Rattle.eco_meaning.specs.Circuit.{Circuit, Values, IsConsistent}
use Rattle.eco_meaning.specs.Meaning.{Goal}
use Rattle.eco_meaning.specs.Cost.{Weights, IsCandidate}
use Rattle.eco_meaning.specs.Choice.{IsForced, IsKept, AgreeAt, Suffices, AreValues}
use Rattle.eco_laws.specs.Reached.{IsPatchOf}
use Rattle.eco_laws.specs.Parts.{IsPartOf}

-- the signals are candidates of the target that comes after the earlier ones
pub record AreReadable (f p : Circuit) (earlier signals : List (List ℕ)) : Type 0 where
  pub patch : IsPatchOf f p earlier
  pub weights : Weights
  pub input_weight : ℕ
  pub candidates : All (IsCandidate f weights input_weight earlier) signals

-- candidates have values at each input
abbrev pub CandidatesHaveValues : Type 0
CandidatesHaveValues =
    (f p : Circuit) (earlier signals : List (List ℕ)) → AreReadable f p earlier signals →
    (x : List Bool) → length x ≡ length f.inputs → (bits : List Bool) × AreValues f p earlier signals x bits

-- they agree at two inputs exactly where these values are the same
abbrev pub AgreeByValues : Type 0
AgreeByValues =
    (f p : Circuit) (earlier signals : List (List ℕ)) (x y bits others : List Bool) →
    AreValues f p earlier signals x bits → AreValues f p earlier signals y others →
    AgreeAt f p earlier (Contains signals) x y ↔ (bits ≡ others)

-- the function has the bit that is forced, from the signals' values
abbrev pub MeetsForcedBits : Circuit → Goal → Circuit → List (List ℕ) → List ℕ → List (List ℕ) → (List Bool → Bool) → Type 0
MeetsForcedBits f goal p earlier target signals function =
    (x bits : List Bool) (bit : Bool) → IsForced f goal p earlier target x bit → AreValues f p earlier signals x bits →
    function bits ≡ bit

-- the patch gives the target this function of signals that it reads
pub record HasFunction (p : Circuit) (target : List ℕ) (signals : List (List ℕ)) (function : List Bool → Bool) : Type 0 where
  pub reads : All (Contains p.inputs) signals
  pub value : (w : Values) → IsConsistent p w → w target ≡ function (map w signals)

-- both patches give the target one function of the same signals
pub record HasOneFunction (p q : Circuit) (target : List ℕ) : Type 0 where
  pub signals : List (List ℕ)
  pub function : List Bool → Bool
  pub first : HasFunction p target signals function
  pub second : HasFunction q target signals function

-- a patch is a part of one that reads what it reads and gives the earlier targets the same functions
abbrev pub SameFunctionsAreParts : Type 0
SameFunctionsAreParts =
    (p q : Circuit) (earlier : List (List ℕ)) → All (Contains q.inputs) p.inputs → All (HasOneFunction p q) earlier →
    IsPartOf p q earlier

-- signals of which there is such a function suffice
abbrev pub FunctionsShowThatSignalsSuffice : Type 0
FunctionsShowThatSignalsSuffice =
    (f : Circuit) (goal : Goal) (p : Circuit) (earlier : List (List ℕ)) (target : List ℕ) (signals : List (List ℕ)) (function : List Bool → Bool) →
    AreReadable f p earlier signals → MeetsForcedBits f goal p earlier target signals function →
    Suffices f goal p earlier target (Contains signals)

-- a patch that goes on with such a function keeps f rectifiable
abbrev pub FunctionsKeep : Type 0
FunctionsKeep =
    (f : Circuit) (goal : Goal) (p q : Circuit) (earlier : List (List ℕ)) (target : List ℕ) (signals : List (List ℕ)) (function : List Bool → Bool) →
    AreReadable f p earlier signals → IsPatchOf f q (earlier ++ target ∷ []) → IsPartOf p q earlier →
    MeetsForcedBits f goal p earlier target signals function → HasFunction q target signals function →
    IsKept f goal p earlier → IsKept f goal q (earlier ++ target ∷ [])
