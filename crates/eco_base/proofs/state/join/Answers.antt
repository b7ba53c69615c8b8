-- The inputs are new.
use Rattle.std.proofs.Common.{[], ◌∷◌, ◌++◌, refl, ◌∙◌, ap, length}
use Rattle.eco_base.specs.declared.state.State.{State}
use Rattle.eco_base.specs.Scenes.{AtScene, IsReadAt, scene_of}
use Rattle.eco_base.specs.Asking.{names_here}
use Rattle.eco_base.proofs.StateLaws.{join_goes_on, read_as}
use Rattle.eco_base.specs.SideValue.{SideValue}
use Rattle.eco_base.proofs.SceneLaws.{targets_at}
use Rattle.eco_base.proofs.WalkLaws.{forcing_as, more_ones, more_zeros}
use Rattle.eco_base.proofs.state.join.Goals as goal

pub values_at-requires-clause-input : goal.values_at-requires-clause-input
values_at-requires-clause-input c =
    let (before, target, behind, are, len) = targets_at c.args.stage.now c.requires.stage in
    ap length c.as_slice.ensures ∙ (c.requires.forced before target behind are len).0.len

pub values_at-requires-2-clause-input : goal.values_at-requires-2-clause-input
values_at-requires-2-clause-input c =
    let (before, target, behind, are, len) = targets_at c.args.stage.now c.requires.stage in
    ap length c.as_slice-3.ensures ∙ (c.requires.forced before target behind are len).1.len

pub returns-clause-goes_on : goal.returns-clause-goes_on
returns-clause-goes_on c = λ column separated conflict.
    let stage = c.args.stage.now in
    let old = c.args.state.now in
    let new : State = record { kept = old.kept; fixed = old.fixed; from = old.from; ones = c.add.new.self; zeros = c.add-2.new.self; rests = old.rests } in
    let columns = stage.columns.items in
    let read_one : AtScene stage (λ s. IsReadAt s (names_here stage columns) c.args.pair.one c.of.result) =
    read_as stage c.as_slice-2.result.now columns c.as_slice.result.now c.args.pair.one c.in_ok-one_row.one_row.items c.of.result c.as_slice-2.ensures.value c.as_slice.ensures c.of.ensures c.in_ok-one_row.ensures in
    let read_zero : AtScene stage (λ s. IsReadAt s (names_here stage columns) c.args.pair.zero c.of-2.result) =
    read_as stage c.as_slice-4.result.now columns c.as_slice-3.result.now c.args.pair.zero c.in_ok-zero_row.zero_row.items c.of-2.result c.as_slice-4.ensures.value c.as_slice-3.ensures c.of-2.ensures c.in_ok-zero_row.ensures in
    join_goes_on stage old new column c.args.pair.one c.args.pair.zero c.of.result c.of-2.result c.requires.stage c.requires.state separated conflict
    read_one read_zero refl refl refl refl c.in_ok-add.ensures.added c.in_ok-add-2.ensures.added

pub returns-in_err-add-clause-forcing : goal.returns-in_err-add-clause-forcing
returns-in_err-add-clause-forcing c =
    let old = c.args.state.now in
    forcing_as c.args.stage.now c.add.new.self.inputs old.ones.inputs old.zeros.inputs old.zeros.inputs c.in_err-add.ensures.failed refl c.requires.forcing

pub returns-in_err-add-2-clause-forcing : goal.returns-in_err-add-2-clause-forcing
returns-in_err-add-2-clause-forcing c =
    let stage = c.args.stage.now in
    let old = c.args.state.now in
    forcing_as stage c.add.new.self.inputs (old.ones.inputs ++ c.args.pair.one ∷ []) c.add-2.new.self.inputs old.zeros.inputs
    (ap (λ (side : SideValue). side.inputs) c.in_ok-add.ensures.added) c.in_err-add-2.ensures.failed
    (λ before target behind are len. more_ones (scene_of stage before target behind) old.ones.inputs old.zeros.inputs c.args.pair.one
    (c.requires.forcing before target behind are len) (c.requires.forced before target behind are len).0)

pub returns-clause-forcing : goal.returns-clause-forcing
returns-clause-forcing c =
    let stage = c.args.stage.now in
    let old = c.args.state.now in
    let pair = c.args.pair in
    forcing_as stage c.add.new.self.inputs (old.ones.inputs ++ pair.one ∷ []) c.add-2.new.self.inputs (old.zeros.inputs ++ pair.zero ∷ [])
    (ap (λ (side : SideValue). side.inputs) c.in_ok-add.ensures.added) (ap (λ (side : SideValue). side.inputs) c.in_ok-add-2.ensures.added)
    (λ before target behind are len.
    let s = scene_of stage before target behind in
    let forced = c.requires.forced before target behind are len in
    more_zeros s (old.ones.inputs ++ pair.one ∷ []) old.zeros.inputs pair.zero
    (more_ones s old.ones.inputs old.zeros.inputs pair.one (c.requires.forcing before target behind are len) forced.0) forced.1)
