-- The base that is found is answered, with what any costs at least.
use Rattle.std.proofs.Common.{◌≡◌, IfOk, sym, subst}
use Rattle.std.proofs.lemmas.Result.{IfOk-weaker}
use Rattle.eco_base.specs.Chosen.{IsBaseOf}
use Rattle.eco_base.specs.Targets.{TargetValue, paid_of}
use Rattle.eco_base.specs.declared.choosing.Chosen.{Chosen}
use Rattle.eco_least.specs.declared.choosing.Cheap.{Cheap}
use Rattle.eco_least.specs.Weighed.{IsBase, IsLeast}
use Rattle.eco_least.proofs.choosing.light.Goals as goal
use Rattle.eco_least.proofs.choosing.light.Goals.{in-Err, in-Ok}

pub base_at-requires-clause-account : goal.base_at-requires-clause-account
base_at-requires-clause-account g c = c.open-account.ensures c.args.target.now c.in_ok-weighed.weighed

pub returns-clause-base : goal.returns-clause-base
returns-clause-base g c =
    let t = c.args.target.now in
    let here = λ (cheap : Cheap). IsBaseOf t.problem t.number t.patches (paid_of t) cheap.chosen in
    elim c.match-base_at.branch [
      | in-Ok w ↦
          subst (λ r. IfOk r here) (sym w.cheap-is)
          (IfOk-weaker w.with_least-cheap.result (λ cheap. cheap.chosen ≡ w.in-Ok.chosen) here
          (λ cheap same. subst (λ (chosen : Chosen). IsBaseOf t.problem t.number t.patches (paid_of t) chosen) (sym same) w.in-Ok.ensures.base.found)
          w.with_least-cheap.ensures.base)
      | in-Err w ↦ subst (λ r. IfOk r here) (sym w.cheap-is) tt
    ]

pub returns-clause-least : goal.returns-clause-least
returns-clause-least g c =
    let t = c.args.target.now in
    elim c.match-base_at.branch [
      | in-Ok w ↦
          subst (λ r. IfOk r (λ cheap. IsLeast t cheap.least)) (sym w.cheap-is)
          (subst (λ (t : TargetValue). IfOk w.with_least-cheap.result (λ cheap. IsLeast t cheap.least)) w.in-Ok.ensures.stays w.with_least-cheap.ensures.least)
      | in-Err w ↦ subst (λ r. IfOk r (λ cheap. IsLeast t cheap.least)) (sym w.cheap-is) tt
    ]
