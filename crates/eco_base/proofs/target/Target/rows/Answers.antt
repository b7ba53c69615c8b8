-- The rows are values of the signals.
use Rattle.std.proofs.Common.{◌≡◌, List, Bool, IfOk, length, sym, subst}
use Rattle.std.specs.List.{All, AllZip}
use Rattle.std.proofs.lemmas.Result.{IfOk-weaker}
use Rattle.eco_meaning.specs.Circuit.{Circuit, names}
use Rattle.eco_netlist.specs.Netlists.{AreNets}
use Rattle.eco_base.specs.Asking.{names_here}
use Rattle.eco_base.specs.Scenes.{splice_at}
use Rattle.eco_base.specs.Targets.{AreReadableAt, TargetValue, named_in}
use Rattle.eco_base.specs.Walks.{AreRowsAt, IsRowOf}
use Rattle.eco_base.proofs.SceneLaws.{spliced_is}
use Rattle.eco_base.proofs.WalkLaws.{rows_are_values}
use Rattle.eco_base.proofs.target.Target.rows.Goals as goal

pub rows_at-requires : goal.rows_at-requires
rows_at-requires g c =
    let inputs = c.args.inputs.now in
    let is = spliced_is c.self.inside.stage c.self.inside.engine c.spliced.result.now c.self.invariant.at c.spliced.ensures in
    subst (λ (n : Circuit). All (λ (x : List Bool). length x ≡ length n.inputs) inputs) (sym is)
    (subst (λ (t : TargetValue). All (λ (x : List Bool). length x ≡ length t.problem.implementation.inputs) inputs) (sym c.self.view_is) c.requires.inputs)

pub returns : goal.returns
returns g c =
    let stage = c.self.inside.stage in
    let n = c.spliced.result.now in
    let nets = c.args.signals.now in
    let inputs = c.args.inputs.now in
    let is : n ≡ splice_at stage = spliced_is stage c.self.inside.engine n c.self.invariant.at c.spliced.ensures in
    let within = subst (λ (t : TargetValue). AreNets (names t.problem.implementation) nets) (sym c.self.view_is) c.requires.nets in
    let readable = subst (λ (t : TargetValue). AreReadableAt t nets) (sym c.self.view_is) c.requires.readable in
    subst (λ (t : TargetValue). IfOk c.rows_at.result (λ rows. AreRowsAt t.problem t.number t.patches (named_in t nets) inputs rows.items)) c.self.view_is
    (IfOk-weaker c.rows_at.result (λ rows. AllZip (IsRowOf n nets) inputs rows.items) (λ rows. AreRowsAt stage.problem.now stage.number stage.patches (names_here stage nets) inputs rows.items)
    (λ rows zip. rows_are_values stage n nets inputs rows.items c.self.invariant.stage_is within readable is zip)
    c.rows_at.ensures)
