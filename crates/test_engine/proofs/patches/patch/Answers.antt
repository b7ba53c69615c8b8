-- The base are the inputs, and there are as many roots as targets before this one.
use Rattle.std.proofs.Common.{length, sym, ◌∙◌, subst}
use Rattle.std.proofs.lemmas.Result.{IfOk-at_ok}
use Rattle.eco_meaning.specs.Circuit.{Circuit, names}
use Rattle.eco_netlist.specs.Netlists.{IsChecked, names_at}
use Rattle.eco_splice.specs.GraphPatch.{FitsFirst}
use Rattle.eco_pose.specs.Questions.{AtTarget}
use Rattle.eco_desk.specs.Desks.{AreBefore}
use Rattle.test_engine.proofs.FrontLaws.{inputs_differ, inputs_signal, inputs_rooted, first_are_before}
use Rattle.test_engine.proofs.patches.patch.Goals as goal

pub patch_netlist-requires-clause-distinct : goal.patch_netlist-requires-clause-distinct
patch_netlist-requires-clause-distinct g c =
    let f = c.implementation-f.result.now in
    inputs_differ f (names_at (names f) c.inputs-base.result.now) (subst IsChecked (sym c.implementation-f.ensures.value) c.implementation-f.ensures.problem.implementation) c.inputs-base.ensures.named

pub patch_netlist-requires-clause-signals : goal.patch_netlist-requires-clause-signals
patch_netlist-requires-clause-signals g c =
    let f = c.implementation-f.result.now in
    inputs_signal f (names_at (names f) c.inputs-base.result.now) c.inputs-base.ensures.named

pub patch_netlist-requires-clause-rooted : goal.patch_netlist-requires-clause-rooted
patch_netlist-requires-clause-rooted g c =
    let f = c.implementation-f.result.now in
    inputs_rooted f c.expect-graph.result.0 c.as_slice-2.result.now (names_at (names f) c.inputs-base.result.now)
    (subst IsChecked (sym c.implementation-f.ensures.value) c.implementation-f.ensures.problem.implementation) c.inputs-base.ensures.named

pub returns : goal.returns
returns g c =
    let f = c.implementation-f.result.now in
    let p = c.expect-patch.result in
    let roots = c.as_slice-2.result.now in
    let fits = IfOk-at_ok (FitsFirst f (length roots)) c.expect-patch.ensures c.patch_netlist.ensures.fits in
    subst (λ (n : Circuit). AtTarget n c.args.target (AreBefore n p)) c.implementation-f.ensures.value
    (first_are_before f p (length roots) c.args.target (c.as_slice-2.ensures.len ∙ sym c.len.ensures ∙ c.expect_same.ensures) fits)
