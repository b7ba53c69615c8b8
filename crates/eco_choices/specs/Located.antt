-- Which single nets are choices, and how that is found: nets are sifted at inputs that are wrong, and what is left is asked about.
use Rattle.std.specs.Prelude.{◌≢◌, ◌⊎◌, ℕ, Bool, List, [], ◌∷◌, ◌++◌, All, AllPairs, Contains}
use Rattle.eco_meaning.specs.Circuit.{Circuit, IsDriven}
use Rattle.eco_meaning.specs.Meaning.{Goal, IsWrong}
use Rattle.eco_choices.specs.Choices.{IsWrongBut, IsChoice}

-- one of the inputs is wrong with this net cut, so that the net is no choice
pub record IsExcluded (f : Circuit) (goal : Goal) (inputs : List (List Bool)) (net : List ℕ) : Type 0 where
  pub input : List Bool
  pub among : Contains inputs input
  pub wrong : IsWrongBut f goal (net ∷ []) input

-- different nets that gates drive, each listed one a choice: every net that a gate drives is listed, or left over without an
-- answer, or excluded by a printed input, each of which is wrong
pub record IsLocated (f : Circuit) (goal : Goal) (listed over : List (List ℕ)) (printed : List (List Bool)) : Type 0 where
  pub once : AllPairs (λ a b. a ≢ b) (listed ++ over)
  pub driven : All (IsDriven f) (listed ++ over)
  pub choices : All (λ net. IsChoice f goal (net ∷ [])) listed
  pub wrong : All (IsWrong f goal) printed
  pub complete : (net : List ℕ) → IsDriven f net → Contains listed net ⊎ Contains over net ⊎ IsExcluded f goal printed net

-- nets are listed, left or gone: those that are listed are choices, and those that are gone are excluded by the inputs that
-- were seen, each of which is wrong
pub record IsSifted (f : Circuit) (goal : Goal) (listed left gone : List (List ℕ)) (seen : List (List Bool)) : Type 0 where
  pub choices : All (λ net. IsChoice f goal (net ∷ [])) listed
  pub wrong : All (IsWrong f goal) seen
  pub excluded : All (IsExcluded f goal seen) gone
  pub sifted : (net : List ℕ) → IsDriven f net → Contains listed net ⊎ Contains left net ⊎ Contains gone net

-- at first all driven nets are left
abbrev pub SiftingBegins : Type 0
SiftingBegins =
    (f : Circuit) (goal : Goal) (left : List (List ℕ)) → ((net : List ℕ) → IsDriven f net → Contains left net) →
    IsSifted f goal [] left [] []

-- an input that is wrong takes those nets with which it stays wrong
abbrev pub SiftingByInput : Type 0
SiftingByInput =
    (f : Circuit) (goal : Goal) (listed left gone rest taken : List (List ℕ)) (seen : List (List Bool)) (input : List Bool) →
    IsSifted f goal listed left gone seen → IsWrong f goal input →
    ((net : List ℕ) → Contains left net → Contains rest net ⊎ Contains taken net) →
    All (λ net. IsWrongBut f goal (net ∷ []) input) taken →
    IsSifted f goal listed rest (gone ++ taken) (seen ++ input ∷ [])

-- a net that is a choice is listed
abbrev pub SiftingByChoice : Type 0
SiftingByChoice =
    (f : Circuit) (goal : Goal) (listed before behind gone : List (List ℕ)) (net : List ℕ) (seen : List (List Bool)) →
    IsSifted f goal listed (before ++ net ∷ behind) gone seen → IsChoice f goal (net ∷ []) →
    IsSifted f goal (listed ++ net ∷ []) (before ++ behind) gone seen

-- at the end those of the inputs are printed that exclude all that is gone
abbrev pub SiftingEnds : Type 0
SiftingEnds =
    (f : Circuit) (goal : Goal) (listed over gone : List (List ℕ)) (seen printed : List (List Bool)) →
    IsSifted f goal listed over gone seen → AllPairs (λ a b. a ≢ b) (listed ++ over) → All (IsDriven f) (listed ++ over) →
    All (Contains seen) printed → All (IsExcluded f goal printed) gone → IsLocated f goal listed over printed
