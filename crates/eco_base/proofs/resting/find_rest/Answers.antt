-- The earlier targets' values and the other bit are fixed.
use Rattle.std.proofs.Common.{not, [], ◌∷◌, length, take, arith, ap, sym, ◌∙◌, subst}
use Rattle.std.proofs.lemmas.List.{length-append, length-map, length-take-le}
use Rattle.std.proofs.lemmas.Result.{IfOk-weaker}
use Rattle.eco_meaning.specs.Circuit.{Circuit, names, AreTargets}
use Rattle.eco_gates.specs.declared.gate.NetId.{NetId}
use Rattle.eco_netlist.specs.Netlists.{name_at, names_at}
use Rattle.eco_base.specs.Scenes.{AtScene, IsReadAt, AreValuesHere, scene_of}
use Rattle.eco_base.specs.Asking.{IsFurther, IsRestBehind, names_here}
use Rattle.eco_base.proofs.SceneLaws.{read_are_earlier, spliced_is, targets_at}
use Rattle.eco_base.proofs.AskLaws.{more_targets, before_are, rest_is_further}
use Rattle.eco_base.proofs.resting.find_rest.Goals as goal

pub slice_bounds-earlier-end : goal.slice_bounds-earlier-end
slice_bounds-earlier-end g c =
    let stage = c.args.stage.now in
    let targets = c.targets-targets.result.now in
    let named = subst (λ (f : Circuit). AreTargets f (names_at (names f) targets)) c.implementation.ensures.value c.targets-targets.ensures.named in
    let more = more_targets stage (names_here stage targets) c.requires.stage named in
    sym (length-take-le stage.number targets (omega (arith, more, length-map targets (λ (net : NetId). name_at (names stage.problem.now.implementation) net.0))))

pub values_at-requires-clause-spliced : goal.values_at-requires-clause-spliced
values_at-requires-clause-spliced g c = spliced_is c.args.stage.now c.args.engine.now c.spliced.result.now c.requires.engine c.spliced.ensures

pub ask_rest-requires-clause-fixed : goal.ask_rest-requires-clause-fixed
ask_rest-requires-clause-fixed g c =
    let stage = c.args.stage.now in
    let targets = c.targets-targets.result.now in
    let values = c.in_ok-values.values.items in
    let named = subst (λ (f : Circuit). AreTargets f (names_at (names f) targets)) c.implementation.ensures.value c.targets-targets.ensures.named in
    let (before, target, behind, are, len) = targets_at stage c.requires.stage in
    let (v, reached, same) = c.in_ok-values.ensures before target behind are len in
    let front = names_here stage (take stage.number targets) in
    omega (
      arith,
      ap length (c.of-fixed.ensures ∙ c.in_ok-push.ensures.items),
      length-append values (not c.args.bit ∷ []),
      ap length (sym same),
      length-map front v,
      ap length (before_are stage targets before target behind named are len),
      len,
    )

pub returns-clause-further : goal.returns-clause-further
returns-clause-further g c =
    let stage = c.args.stage.now in
    let targets = c.targets-targets.result.now in
    let values = c.in_ok-values.values.items in
    let x = c.args.input.now in
    let named = subst (λ (f : Circuit). AreTargets f (names_at (names f) targets)) c.implementation.ensures.value c.targets-targets.ensures.named in
    let earlier : AtScene stage (λ s. AreValuesHere s s.before x values) = λ before target behind are len.
    let s = scene_of stage before target behind in
    read_are_earlier s x values (c.requires.stage.scene before target behind are len)
    (subst (λ input. IsReadAt s before input values) c.as_slice.ensures
    (subst (λ signals. IsReadAt s signals c.as_slice.result.now values) (before_are stage targets before target behind named are len) (c.in_ok-values.ensures before target behind are len))) in
    IfOk-weaker c.ask_rest.result (IsRestBehind stage x c.of-fixed.result) (IsFurther stage x c.args.bit)
    (λ r rest. rest_is_further stage x values c.of-fixed.result c.args.bit r (c.of-fixed.ensures ∙ c.in_ok-push.ensures.items) earlier rest) c.ask_rest.ensures.rest
