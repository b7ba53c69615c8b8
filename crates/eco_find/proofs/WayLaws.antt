-- What each way answers is what it promises.
use Rattle.std.proofs.Common.{◌≡◌, ℕ, Some, None, List, refl, sym, subst, rules}
use Rattle.eco_meaning.specs.Circuit.{Circuit}
use Rattle.eco_query.specs.Problem.{ProblemValue}
use Rattle.eco_base.specs.Chosen.{IsBaseOf, IsChosen}
use Rattle.eco_base.specs.declared.choosing.Chosen.{Chosen}
use Rattle.eco_least.specs.declared.choosing.Cheap.{Cheap}
use Rattle.eco_least.specs.Least.{IsLeastCost}
use Rattle.eco_find.specs.Found.{IsBaseBy}
use Rattle.eco_find.specs.declared.ways.Found.{Found}
use Rattle.eco_find.specs.declared.ways.Way.{Way}
use Rattle.eco_find.specs.declared.ways.Way.TheVariants.{Greedy, Within, Light}

module _ (problem : ProblemValue) (i : ℕ) (patches : Circuit) (paid : List (List ℕ)) where
  -- the greedy choice is a base
  is_base : (chosen : Chosen) → IsChosen problem i patches paid chosen → IsBaseOf problem i patches paid chosen
  is_base chosen is before target behind are len = (is before target behind are len).found

  pub by_greedy : (way : Way) (chosen : Chosen) → way ≡ Greedy → IsChosen problem i patches paid chosen → IsBaseBy way problem i patches paid (record { chosen = chosen; least = None })
  by_greedy way chosen same is =
      subst (λ (w : Way). IsBaseBy w problem i patches paid (record { chosen = chosen; least = None })) (sym same)
      (record { base = is_base chosen is; greedy = λ _. is; told = λ no. search rules; untold = λ _. refl })

  -- a base with what any costs at least
  module _ (way : Way) (effort : ℕ) (cheap : Cheap) (found : Found) (same : found ≡ record { chosen = cheap.chosen; least = Some cheap.least }) (least : IsLeastCost problem i patches paid cheap.least) where
    pub by_within : way ≡ Within effort → IsChosen problem i patches paid cheap.chosen → IsBaseBy way problem i patches paid found
    by_within is_way is =
        subst (λ (w : Way). IsBaseBy w problem i patches paid found) (sym is_way)
        (subst (IsBaseBy (Within effort) problem i patches paid) (sym same)
        (record { base = is_base cheap.chosen is; greedy = λ _. is; told = λ _. (cheap.least, refl, least); untold = λ no. search rules }))

    pub by_light : way ≡ Light effort → IsBaseOf problem i patches paid cheap.chosen → IsBaseBy way problem i patches paid found
    by_light is_way is =
        subst (λ (w : Way). IsBaseBy w problem i patches paid found) (sym is_way)
        (subst (IsBaseBy (Light effort) problem i patches paid) (sym same)
        (record { base = is; greedy = λ no. search rules; told = λ _. (cheap.least, refl, least); untold = λ no. search rules }))
