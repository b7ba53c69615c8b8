-- The signals can be asked about.
use Rattle.std.proofs.Common.{List, sym, ◌∙◌, ap, subst}
use Rattle.std.proofs.lemmas.Result.{IfOk-weaker}
use Rattle.eco_meaning.specs.Circuit.{names}
use Rattle.eco_gates.specs.declared.gate.NetId.{NetId}
use Rattle.eco_netlist.specs.Netlists.{AreNets}
use Rattle.eco_base.specs.Scenes.{scene_of}
use Rattle.eco_base.specs.Asking.{AreReadableHere, AreRests, IsOutcome, names_here}
use Rattle.eco_base.specs.Fronts.{base_from}
use Rattle.eco_base.proofs.BaseLaws.{base_names, base_nets, base_readable, place_of_column}
use Rattle.eco_base.proofs.stepping.ask_from.Goals as goal

pub question-requires-clause-nets : goal.question-requires-clause-nets
question-requires-clause-nets g c =
    let stage = c.args.stage.now in
    subst (AreNets (names stage.problem.now.implementation)) (sym (c.as_slice.ensures.value ∙ c.in_ok-base.ensures))
    (base_nets stage c.args.state.now c.args.column c.requires.stage c.requires.state.fixed)

pub question-requires-clause-base : goal.question-requires-clause-base
question-requires-clause-base g c = λ before target behind are len.
    let stage = c.args.stage.now in
    let state = c.args.state.now in
    let s = scene_of stage before target behind in
    let at = c.requires.state.scene before target behind are len in
    let (place, column_is, later) = place_of_column stage before target behind state c.args.column at c.requires.behind in
    subst (λ (nets : List NetId). AreReadableHere s (names_here stage nets)) (sym (c.as_slice.ensures.value ∙ c.in_ok-base.ensures))
    (subst (AreReadableHere s) (sym (ap (λ k. names_here stage (base_from stage state k)) column_is ∙ base_names stage before target behind state place at))
    (base_readable s state place (c.requires.stage.scene before target behind are len) at later))

pub question-requires-clause-rests : goal.question-requires-clause-rests
question-requires-clause-rests g c = λ before target behind are len.
    subst (AreRests (scene_of c.args.stage.now before target behind)) (sym c.as_slice-rests.ensures.value) (c.requires.state.scene before target behind are len).rests

pub returns-clause-outcome : goal.returns-clause-outcome
returns-clause-outcome g c =
    let stage = c.args.stage.now in
    let state = c.args.state.now in
    IfOk-weaker c.question.result (IsOutcome stage c.as_slice-rests.result.now c.as_slice.result.now)
    (IsOutcome stage state.rests.items (base_from stage state c.args.column))
    (λ outcome is.
    subst (λ rests. IsOutcome stage rests (base_from stage state c.args.column) outcome) c.as_slice-rests.ensures.value
    (subst (λ (nets : List NetId). IsOutcome stage c.as_slice-rests.result.now nets outcome) (c.as_slice.ensures.value ∙ c.in_ok-base.ensures) is))
    c.question.ensures.outcome
