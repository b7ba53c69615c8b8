-- What is found at the two inputs.
use Rattle.std.proofs.Common.{true, false, subst}
use Rattle.std.proofs.lemmas.Result.{IfOk-weaker}
use Rattle.eco_base.specs.Scenes.{scene_of}
use Rattle.eco_base.specs.Asking.{IsFurther, IsJudged}
use Rattle.eco_base.proofs.AskLaws.{new_rest, judged_at_zero}
use Rattle.eco_base.proofs.judging.further_rest.Goals as goal

pub returns-in-Some-clause-rest : goal.returns-in-Some-clause-rest
returns-in-Some-clause-rest g c = λ rests base separated before target behind are len.
    let stage = c.args.stage.now in
    let some = subst (IsFurther stage c.args.pair.now.one true) c.in-Some.is c.in_ok-rest.ensures.further in
    new_rest (scene_of stage before target behind) rests c.args.pair.now.one true c.in-Some.rest (c.requires.stage.scene before target behind are len)
    (separated before target behind are len).one (some before target behind are len)

pub returns-in-None-clause-rest : goal.returns-in-None-clause-rest
returns-in-None-clause-rest g c = λ rests base separated.
    let stage = c.args.stage.now in
    let none = subst (IsFurther stage c.args.pair.now.one true) c.in-None.is c.in_ok-rest.ensures.further in
    IfOk-weaker c.find_rest-in-None.result (IsFurther stage c.args.pair.now.zero false) (IsJudged stage rests base c.args.pair.now)
    (λ rest further. judged_at_zero stage rests base c.args.pair.now rest c.requires.stage separated none further) c.find_rest-in-None.ensures.further
