-- What is read at the nets.
use Rattle.std.proofs.Common.{sym, subst, map, false, length, ap, ◌≡◌, ◌∙◌}
use Rattle.std.specs.List.{slice_index_or}
use Rattle.std.proofs.lemmas.Result.{IfOk-weaker}
use Rattle.eco_meaning.specs.Circuit.{Circuit, names}
use Rattle.eco_netlist.specs.Netlists.{AreNets}
use Rattle.eco_pose.proofs.SideLaws.{nets_of_splice}
use Rattle.eco_base.specs.Scenes.{AtScene, IsReadAt, scene_of}
use Rattle.eco_base.specs.Asking.{names_here}
use Rattle.eco_base.proofs.SceneLaws.{filled_is_reached, read_at_nets}
use Rattle.eco_base.proofs.values.values_at.Goals as goal

pub values_at-requires : goal.values_at-requires
values_at-requires c = c.requires.input ∙ sym (ap (λ (n : Circuit). length n.inputs) c.requires.spliced)

pub returns : goal.returns
returns c =
    let stage = c.args.stage.now in
    let nets = c.args.nets.now in
    let values = c.in_ok-values.values.items in
    IfOk-weaker c.bits_at.result (λ bits. bits.items ≡ map (λ net. slice_index_or c.as_slice.result.now net.0 false) nets)
    (λ bits. AtScene stage (λ s. IsReadAt s (names_here stage nets) c.args.input.now bits.items))
    (λ bits same before target behind are len.
    let scene = c.requires.stage.scene before target behind are len in
    read_at_nets (scene_of stage before target behind) c.args.spliced.now nets c.args.input.now c.as_slice.result.now bits.items c.requires.spliced c.requires.nets
    (subst (λ list. IsReadAt (scene_of stage before target behind) (names c.args.spliced.now) c.args.input.now list) (sym c.as_slice.ensures.value) (filled_is_reached (scene_of stage before target behind) c.args.spliced.now c.args.input.now values scene.patch scene.fits scene.outputs c.requires.spliced c.in_ok-values.ensures)) same
    (subst (λ (n : Circuit). AreNets (names n) nets) (sym c.requires.spliced) (nets_of_splice stage.problem.now.implementation stage.patches nets c.requires.nets)))
    c.bits_at.ensures
