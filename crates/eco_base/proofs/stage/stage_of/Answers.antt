-- The stage is one of the target.
use Rattle.std.proofs.Common.{◌-◌, [], ◌++◌, length, arith, refl, sym, ◌∙◌, ap, subst}
use Rattle.eco_meaning.specs.Circuit.{Circuit, names, AreTargets}
use Rattle.eco_netlist.specs.Netlists.{IsChecked, names_at}
use Rattle.eco_pose.proofs.SideLaws.{more_than}
use Rattle.eco_base.specs.Stages.{IsStageFor}
use Rattle.eco_base.specs.declared.stage.Stage.{Stage}
use Rattle.eco_base.proofs.StageLaws.{stage_made}
use Rattle.eco_base.proofs.stage.stage_of.Goals as goal

pub overflow_sub-later : goal.overflow_sub-later
overflow_sub-later c =
    let targets = c.targets.result.now in
    let named = subst (λ (f : Circuit). AreTargets f (names_at (names f) targets)) c.implementation-implementation.ensures.value c.targets.ensures.named in
    omega (arith, more_than c.args.problem.now.implementation c.args.number targets c.requires.number named)

pub overflow_sub-later-2 : goal.overflow_sub-later-2
overflow_sub-later-2 c =
    let targets = c.targets.result.now in
    let named = subst (λ (f : Circuit). AreTargets f (names_at (names f) targets)) c.implementation-implementation.ensures.value c.targets.ensures.named in
    omega (arith, more_than c.args.problem.now.implementation c.args.number targets c.requires.number named)

pub returns : goal.returns
returns c =
    let targets = c.targets.result.now in
    let turns = c.in_ok-turns.turns.items in
    let value = c.implementation-implementation.ensures.value in
    let named = subst (λ (f : Circuit). AreTargets f (names_at (names f) targets)) value c.targets.ensures.named in
    let made = λ (patches : Circuit). let stage : Stage = record { alloc = c.args.alloc; problem = c.args.problem; number = c.args.number; patches = patches; columns = c.extend_from_slice.new.self; paid = length c.args.paid.now; later = length targets - c.args.number - 1 } in stage in
    let columns = c.in_ok-extend_from_slice.ensures.items ∙ ap (λ list. list ++ c.as_slice.result.now) c.in_ok-columns.ensures.items ∙ ap (λ list. c.args.paid.now ++ list) c.as_slice.ensures.value in
    let is_made =
    stage_made (made c.args.patches.now) c.args.paid.now turns targets (subst IsChecked value c.nets.ensures.checked) c.nets-2.ensures.checked
    c.requires.number c.requires.nets c.in_ok-turns.ensures.nets c.requires.ready c.requires.first c.in_ok-turns.ensures.turns named columns refl refl in
    subst (λ (patches : Circuit). IsStageFor c.args.problem.now c.args.number c.args.patches.now c.args.paid.now [] (made patches)) (sym c.in_ok-patches.ensures.same) is_made
