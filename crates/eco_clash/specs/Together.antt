-- When signals serve all targets at once, and what follows for the first one.
use Rattle.std.specs.Prelude.{◌≡◌, ℕ, Bool, List, [], ◌∷◌, length, All, Contains}
use Rattle.eco_meaning.specs.Circuit.{Circuit}
use Rattle.eco_meaning.specs.Meaning.{Goal}
use Rattle.eco_meaning.specs.Choice.{Suffices}
use Rattle.eco_laws.specs.Reached.{IsPatchOf}
use Rattle.eco_clash.specs.Clashes.{IsClash, IsSteady}
use Rattle.eco_clash.specs.Questions.{IsMissedIn}

-- no tuple clashes over which all of the signals are steady: the targets have functions of these signals
abbrev pub SufficeTogether : Circuit → Goal → List (List ℕ) → List (List ℕ) → Type 0
SufficeTogether f goal targets signals =
    (tuple : List (List Bool)) → IsClash f goal targets tuple → All (IsSteady f targets tuple) signals → ⊥

-- the tuple has inputs of f, the signals are steady over it, and each listed row is one with which f isn't right at one of them
pub record IsTupleFor (f : Circuit) (goal : Goal) (targets : List (List ℕ)) (rows : List (List Bool)) (signals : List (List ℕ)) (tuple : List (List Bool)) : Type 0 where
  pub len : All (λ x. length x ≡ length f.inputs) tuple
  pub missed : (row : List Bool) → Contains rows row → IsMissedIn f goal targets tuple row
  pub steady : All (IsSteady f targets tuple) signals

-- where no tuple misses all listed rows, whatever these are, the signals suffice together
abbrev pub NoneTogether : Type 0
NoneTogether =
    (f : Circuit) (goal : Goal) (targets : List (List ℕ)) (rows : List (List Bool)) (signals : List (List ℕ)) →
    ((tuple : List (List Bool)) → IsTupleFor f goal targets rows signals tuple → ⊥) → SufficeTogether f goal targets signals

-- signals that suffice together suffice for the first target, before any has its function
abbrev pub TogetherSufficesForFirst : Type 0
TogetherSufficesForFirst =
    (f : Circuit) (goal : Goal) (p : Circuit) (first : List ℕ) (rest signals : List (List ℕ)) → IsPatchOf f p [] →
    SufficeTogether f goal (first ∷ rest) signals → Suffices f goal p [] first (Contains signals)
