-- Trails: the literals that a search takes to be true, in order.
use Rattle.std.specs.Prelude.{◌≡◌, ◌≢◌, ◌⊎◌, ℕ, ◌<◌, ◌≤◌, ◌^◌, List, [], ◌∷◌, ◌++◌, length, take, slice_index_or, Option, Some, None, All, AllPairs, Contains}
use Rattle.eco_trace.specs.declared.clause.Var.{Var}
use Rattle.eco_trace.specs.declared.clause.Lit.{Lit}
use Rattle.eco_trace.specs.declared.node.NodeId.{NodeId}
use Rattle.eco_trace.specs.Clauses.{complement, IsVarWithin}
use Rattle.eco_trace.specs.Freshness.{Lacks}
use Rattle.eco_learn.specs.declared.taken.Truth.{Truth}
use Rattle.eco_learn.specs.declared.taken.Truth.TheVariants.{True, False, Open}

-- what is known of the variables from 1 to `vars`: the literals that were taken to be true, in order; the places at
-- which the literals of each level begin (those of level 0 come before them all, and each other level begins with a
-- decision); and for each literal the clause that forces it, which a decision doesn't have
pub record Known : Type 0 where
  pub vars : ℕ
  pub lits : List Lit
  pub marks : List ℕ
  pub reasons : List (Option NodeId)

-- where the literals of the levels above this one begin
abbrev pub end_of : Known → ℕ → ℕ
end_of k level = slice_index_or k.marks level (length k.lits)

-- the literals of this level and of those below it
abbrev pub lits_at : Known → ℕ → List Lit
lits_at k level = take (end_of k level) k.lits

-- what every trail keeps: its variables are from 1 to `vars`, each stands in it once, so they are no more than
-- `vars`; the levels rise, and each has a literal
pub record IsTrail (k : Known) : Type 0 where
  pub within : All (IsVarWithin k.vars) k.lits
  pub apart : AllPairs (λ a b. a.var ≢ b.var) k.lits
  pub few : length k.lits ≤ k.vars
  pub small : k.vars < 2 ^ 31
  pub rising : AllPairs (λ a b. a < b) k.marks
  pub marked : All (λ m. m < length k.lits) k.marks
  pub reasoned : length k.reasons ≡ length k.lits

-- the levels of the literals, and a reason or none for each, with room for all variables
pub record AreLevels (vars : ℕ) (lits : List Lit) (marks : List ℕ) (reasons : List (Option NodeId)) (room : ℕ) : Type 0 where
  pub rising : AllPairs (λ a b. a < b) marks
  pub marked : All (λ m. m < length lits) marks
  pub reasoned : length reasons ≡ length lits
  pub roomy : vars ≤ room

-- nothing is known yet
abbrev pub begun : ℕ → Known
begun vars = record { vars = vars; lits = []; marks = []; reasons = [] }

-- a new level, which begins with the decision for this literal
abbrev pub decided : Known → Lit → Known
decided k l = record { vars = k.vars; lits = k.lits ++ l ∷ []; marks = k.marks ++ length k.lits ∷ []; reasons = k.reasons ++ None ∷ [] }

-- one more literal of the last level, which the clause of this node forces
abbrev pub implied : Known → Lit → NodeId → Known
implied k l node = record { vars = k.vars; lits = k.lits ++ l ∷ []; marks = k.marks; reasons = k.reasons ++ Some node ∷ [] }

-- what is known without the levels above this one
abbrev pub cut_to : Known → ℕ → Known
cut_to k level = record { vars = k.vars; lits = lits_at k level; marks = take level k.marks; reasons = take (end_of k level) k.reasons }

-- the truth of a literal, where these are true
abbrev pub IsTruthOf : List Lit → Lit → Truth → Type 0
IsTruthOf lits l True = Contains lits l
IsTruthOf lits l False = Contains lits (complement l)
IsTruthOf lits l Open = Lacks lits l

-- the variable is one of those from 1 to `vars`, and nothing is known of it
pub record IsOpenVar (vars : ℕ) (lits : List Lit) (v : Var) : Type 0 where
  pub within : (l : Lit) → l.var ≡ v → IsVarWithin vars l
  pub lacking : (l : Lit) → l.var ≡ v → Lacks lits l

-- each of the variables from 1 to `vars` has a truth value
abbrev pub IsWhole : ℕ → List Lit → Type 0
IsWhole vars lits = (l : Lit) → IsVarWithin vars l → Contains lits l ⊎ Contains lits (complement l)

-- the level of the literal at this place: the levels below it end no later than there, and it ends behind it
pub record IsLevelAt (k : Known) (place level : ℕ) : Type 0 where
  pub last : level ≤ length k.marks
  pub below : (i : ℕ) → i < level → end_of k i ≤ place
  pub here : place < end_of k level
