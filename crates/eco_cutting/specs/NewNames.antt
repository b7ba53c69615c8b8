-- The names that cuts get: free targets with the least numbers, and old names behind a prefix that no net has.
use Rattle.std.specs.Prelude.{◌≡◌, ◌≢◌, ◌<◌, ◌≤◌, ◌⊎◌, ℕ, Bool, List, [], ◌∷◌, ◌++◌, codes, not, filter, map, take, length, IsTrue, All, AllPairs, Contains, if◌then◌else◌}
use Rattle.std.specs.List.{range_with_len}
use Rattle.eco_meaning.specs.Names.{has, is_target_text, target_number}
use Rattle.eco_meaning.specs.Circuit.{Circuit, names}
use Rattle.eco_gates.specs.declared.gate.NetId.{NetId}
use Rattle.eco_netlist.specs.Netlists.{names_at}
use Rattle.eco_text.specs.Prefix.{numbered, IsFreshPrefix}
use Rattle.eco_cutting.specs.Cuts.{Cut}

-- a target's name that no net of f has
pub record IsFreeTarget (f : Circuit) (name : List ℕ) : Type 0 where
  pub text : IsTrue (is_target_text name)
  pub free : Contains (names f) name → ⊥

-- any different free targets are fewer than this
abbrev pub AreFewerFree : Circuit → ℕ → Type 0
AreFewerFree f count = (free : List (List ℕ)) → AllPairs (λ a b. a ≢ b) free → All (IsFreeTarget f) free → length free < count

-- each free target is one of these, or its number is greater than all of theirs
abbrev pub AreLeastFree : Circuit → List (List ℕ) → Type 0
AreLeastFree f targets =
    (name : List ℕ) → IsFreeTarget f name → Contains targets name ⊎ All (λ target. target_number target < target_number name) targets

-- an output's gate drives the net with the output's name behind the prefix, and another net's gate drives the net itself
abbrev pub old_name : Circuit → List ℕ → List ℕ → List ℕ
old_name f prefix net = if has f.outputs net then prefix ++ net else net

-- the old names are these, behind `old_`, `old__` and so on: the shortest with which no name of f begins
pub record AreOldNames (f : Circuit) (cuts : List Cut) : Type 0 where
  pub prefix : List ℕ
  pub fresh : IsFreshPrefix (codes "old") (names f) prefix
  pub named : All (λ c. c.old ≡ old_name f prefix c.net) cuts

-- the target with this number, and the free ones of those below a number, in order
abbrev pub target_name : ℕ → List ℕ
target_name number = numbered (codes "t_") number

abbrev pub is_free : Circuit → List ℕ → Bool
is_free f name = not (has (names f) name)

abbrev pub free_below : Circuit → ℕ → List (List ℕ)
free_below f number = filter (is_free f) (map target_name (range_with_len 0 number))

-- with a cut of the net by this target, if that is free
abbrev pub with_target : Circuit → List ℕ → List ℕ → List ℕ → List Cut → List Cut
with_target f prefix net target cuts =
    if is_free f target then cuts ++ record { net = net; target = target; old = old_name f prefix net } ∷ [] else cuts

-- cuts of the first nets, with the free targets below a number
pub record AreNamed (f : Circuit) (nets : List NetId) (prefix : List ℕ) (number : ℕ) (cuts : List Cut) : Type 0 where
  pub few : length cuts ≤ length nets
  pub nets_named : map (λ c. c.net) cuts ≡ names_at (names f) (take (length cuts) nets)
  pub targets : map (λ c. c.target) cuts ≡ free_below f number
  pub olds : All (λ c. c.old ≡ old_name f prefix c.net) cuts

-- cuts of all of the nets, with the free targets below some number
abbrev pub AreAllNamed : Circuit → List NetId → List ℕ → List Cut → Type 0
AreAllNamed f nets prefix cuts =
    (number : ℕ) × (number ≤ 1000000000) × AreNamed f nets prefix number cuts × (length cuts ≡ length nets)
