-- The rests that are listed.
use Rattle.std.proofs.Common.{◌≡◌, ◌^◌, ◌≤◌, Bool, List, [], ◌∷◌, ◌++◌, length, subst, arith}
use Rattle.std.proofs.lemmas.List.{length-append}
use Rattle.std.proofs.lemmas.List.Elements.{All-nil, All-push}
use Rattle.eco_laws.proofs.RowLemmas.{distinct_few, stay_distinct}
use Rattle.eco_base.specs.declared.stage.Stage.{Stage}
use Rattle.eco_base.specs.Scenes.{AtScene, IsStage}
use Rattle.eco_base.specs.Asking.{AreMoreRests, AreRests, IsNewRest}
use Rattle.eco_base.proofs.SceneLaws.{targets_at}

-- none are some
pub no_rests : (stage : Stage) → AtScene stage (λ s. AreRests s [])
no_rests stage = λ before target behind are len. record {
  rows = All-nil (λ (row : List Bool). length row ≡ length behind);
  distinct = λ i j d less within. absurd (omega (arith, within));
}

-- with one that isn't listed fewer are left
pub more_rests : (stage : Stage) (old : List (List Bool)) (rest : List Bool) → IsStage stage → AtScene stage (λ s. AreRests s old) → AtScene stage (λ s. IsNewRest s old rest) →
    AreMoreRests stage old (old ++ rest ∷ [])
more_rests stage old rest is some fresh =
    let all : AtScene stage (λ s. AreRests s (old ++ rest ∷ [])) = λ before target behind are len. record {
      rows = All-push (λ (r : List Bool). length r ≡ length behind) old rest (some before target behind are len).rows (fresh before target behind are len).len;
      distinct = stay_distinct old rest (some before target behind are len).distinct (fresh before target behind are len).absent;
    } in
    let (before, target, behind, are, len) = targets_at stage is in
    let here = all before target behind are len in
    let few = distinct_few (length behind) (old ++ rest ∷ []) here.rows here.distinct in
    let few_here : length (old ++ rest ∷ []) ≤ 2 ^ stage.later = subst (λ n. length (old ++ rest ∷ []) ≤ 2 ^ n) (is.later before target behind are len) few in
    record { rests = all; less = omega (arith, length-append old (rest ∷ []), few_here) }
