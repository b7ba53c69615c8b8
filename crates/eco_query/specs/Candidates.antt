-- The candidates of a problem's targets on their way into the order of their turns.
use Rattle.std.specs.Prelude.{◌≡◌, ℕ, ◌<◌, Bool, false, List, map, Some, All, Contains}
use Rattle.std.specs.List.{slice_get, IsDistinct}
use Rattle.std.specs.Str.{bytes_eq}
use Rattle.std.specs.Cmp.Lexicographic.{slice_cmp}
use Rattle.std.specs.Ordering.{nat_cmp, ordering_then}
use Rattle.std.specs.declared.cmp.Ordering.{Ordering}
use Rattle.eco_meaning.specs.Circuit.{Circuit, names, IsSignal}
use Rattle.eco_meaning.specs.Cost.{Weights, weight_of, IsCandidate}
use Rattle.eco_meaning.specs.Patch.{IsBehindOnly, OfTarget}
use Rattle.eco_query.specs.declared.order.Turn.{Turn}

-- the function of the target of the number i may read the net of this name, if it has a weight: it is a signal, and lies
-- in the fan-out of no target but the earlier ones
abbrev pub IsOpen : Circuit → List (List ℕ) → List ℕ → Type 0
IsOpen f earlier name = IsSignal f name × IsBehindOnly f earlier name

-- a candidate of the target of the number i
abbrev pub IsCandidateOf : Circuit → Weights → ℕ → ℕ → List ℕ → Type 0
IsCandidateOf f w input_weight i name = OfTarget f i (λ earlier target. IsCandidate f w input_weight earlier name)

-- the turn is that of a candidate of the target of the number i, with its net, its name and its weight
pub record IsTurn (f : Circuit) (w : Weights) (input_weight i : ℕ) (turn : Turn) : Type 0 where
  pub named : slice_get (names f) turn.net.0 ≡ Some turn.name.now
  pub weighed : weight_of f w input_weight turn.name.now ≡ Some turn.weight
  pub candidate : IsCandidateOf f w input_weight i turn.name.now

-- the names of turns, in order
abbrev pub names_in : List Turn → List (List ℕ)
names_in turns = map (λ turn. turn.name.now) turns

-- these are the turns of the target's candidates among the first nets that have no mark, each once
pub record AreFirstTurns (f : Circuit) (w : Weights) (input_weight i : ℕ) (marks : List Bool) (count : ℕ) (turns : List Turn) : Type 0 where
  pub sound : All (IsTurn f w input_weight i) turns
  pub first : All (λ turn. turn.net.0 < count) turns
  pub unmarked : All (λ turn. slice_get marks turn.net.0 ≡ Some false) turns
  pub complete : (net : ℕ) (name : List ℕ) → net < count → slice_get (names f) net ≡ Some name → slice_get marks net ≡ Some false →
      OfTarget f i (λ earlier target. IsCandidate f w input_weight earlier name → Contains (names_in turns) name)
  pub distinct : IsDistinct bytes_eq (names_in turns)

-- how turns compare: the heavier one comes first, of equal weights the one with the later name
abbrev pub turn_order : Turn → Turn → Ordering
turn_order a b = ordering_then (nat_cmp b.weight a.weight) (slice_cmp nat_cmp b.name.now a.name.now)
