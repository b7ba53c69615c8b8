-- What each set of columns that hits all rows weighs at least, each patch costs at least.
use Rattle.std.proofs.Common.{◌≡◌, ◌⊎◌, inl, inr, ℕ, ◌<◌, List, [], ◌∷◌, Some, length, get_or, sym, subst, arith}
use Rattle.std.specs.List.{slice_get, All, Contains}
use Rattle.std.proofs.lemmas.Option.{get_or_from_slice_get, slice_get_within}
use Rattle.std.proofs.lemmas.List.Elements.{All-nil, All-cons, All-head, All-tail}
use Rattle.eco_lists.proofs.Members.{Contains_first, Contains_later, Contains_cases, Contains_none}
use Rattle.eco_lists.proofs.Places.{place_of, All_from_places, All_at, Contains_at}
use Rattle.eco_meaning.specs.Circuit.{Circuit}
use Rattle.eco_meaning.specs.Meaning.{Goal, IsEquivalent}
use Rattle.eco_meaning.specs.Cost.{Weights, IsCandidate, AreTurns}
use Rattle.eco_meaning.specs.Bound.{Weigh}
use Rattle.eco_meaning.specs.Report.{IsPatched}
use Rattle.eco_laws.specs.Sound.{IsSound}
use Rattle.eco_laws.specs.Kept.{CaresForInputs}
use Rattle.eco_laws.proofs.Keeping.{whole_targets}
use Rattle.eco_floor.specs.Sets.{Hits, weight_of}
use Rattle.eco_floor.proofs.Sets.{hits_or}
use Rattle.eco_clash.specs.Clashes.{IsSteady}
use Rattle.eco_clash.specs.Costs.{IsClashRowAt, IsClashRow, AreWeights, RowsBoundPatches}
use Rattle.eco_clash.proofs.PatchLaws.{patches_tell_clashes}

module _ (f : Circuit) (goal : Goal) (w : Weights) (input_weight : ℕ) (earlier signals : List (List ℕ)) (weights : List ℕ) (are : AreTurns f w input_weight earlier [] signals) (weighed : AreWeights f w input_weight signals weights) where
  -- the columns of signals: they weigh as much
  record HasColumns (names : List (List ℕ)) (sum : ℕ) : Type 0 where
    set : List ℕ
    within : All (λ column. column < length weights) set
    weight : weight_of weights set ≡ sum
    all : (name : List ℕ) → Contains names name → (k : ℕ) × (slice_get signals k ≡ Some name) × Contains set k

  columns_of : (names : List (List ℕ)) (sum : ℕ) → All (IsCandidate f w input_weight earlier) names → Weigh f w input_weight names sum → HasColumns names sum
  columns_of [] sum candidates none = record { set = []; within = All-nil (λ column. column < length weights); weight = sym none; all = λ name c. absurd (Contains_none name c) }
  columns_of (first ∷ names) sum candidates (weight, rest, weighs, weigh, same) =
      let more = columns_of names rest (All-tail (IsCandidate f w input_weight earlier) first names candidates) weigh in
      let (k, at) = place_of signals first (are.complete first (record { candidate = All-head (IsCandidate f w input_weight earlier) first names candidates; unpaid = Contains_none first })) in
      let here : get_or weights k 0 ≡ weight = get_or_from_slice_get weights k weight 0 (weighed k weight first at weighs) in
      let place : k < length weights = slice_get_within weights k weight (weighed k weight first at weighs) in
      record {
        set = k ∷ more.set;
        within = All-cons (λ column. column < length weights) k more.set place more.within;
        weight = omega (arith, more.weight, same, here);
        all = λ name c. elim (Contains_cases first name names c) [
          | inl same_name ↦ (k, subst (λ n. slice_get signals k ≡ Some n) same_name at, Contains_first k more.set)
          | inr later ↦ let (j, at_j, in_set) = more.all name later in (j, at_j, Contains_later k j more.set in_set)
        ];
      }

  -- the columns of what a patch reads hit each row
  hit : (p out : Circuit) (sum : ℕ) (columns : HasColumns p.inputs sum) → IsSound f → CaresForInputs f goal → IsSound p → IsPatched f goal p out → (row : List ℕ) → IsClashRowAt f goal signals p.outputs row → Hits columns.set row
  hit p out sum columns sound cares patch patched row is =
      elim (hits_or columns.set row) [
        | inl hits ↦ hits
        | inr never ↦
            let steady : All (IsSteady f p.outputs is.tuple) p.inputs = All_from_places (IsSteady f p.outputs is.tuple) p.inputs (λ place name at.
            let (k, at_k, in_set) = columns.all name (Contains_at p.inputs place name at) in
            is.others k name at_k (never k in_set)) in
            absurd (patches_tell_clashes f goal p is.tuple sound patch patched.fits cares (subst (λ n. IsEquivalent n goal) patched.spliced patched.equivalent) is.clash steady)
      ]

pub rows_bound_patches : RowsBoundPatches
rows_bound_patches f goal w input_weight earlier signals weights rows best sound cares are weighed are_rows floor p out sum patch patched candidates weigh =
    let columns = columns_of f goal w input_weight earlier signals weights are weighed p.inputs sum candidates weigh in
    let hits = All_from_places (Hits columns.set) rows (λ k row at.
    let is = All_at (IsClashRow f goal signals) rows k row are_rows at in
    hit f goal w input_weight earlier signals weights are weighed p out sum columns sound cares patch patched row (is p.outputs (whole_targets f p patched.fits))) in
    let below = floor columns.set columns.within hits in
    omega (arith, below, columns.weight)
