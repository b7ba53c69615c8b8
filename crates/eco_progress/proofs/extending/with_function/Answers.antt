-- The refutation is of the posed clauses, and the functions are one more.
use Rattle.std.proofs.Common.{List, subst, ap, ◌∙◌}
use Rattle.eco_lists.proofs.Values.{IfOk-both}
use Rattle.eco_gates.specs.declared.gate.NetId.{NetId}
use Rattle.eco_tseitin.specs.Sides.{IsApart}
use Rattle.eco_trace.specs.declared.clause.Var.{Var}
use Rattle.eco_trace.specs.Split.{Split}
use Rattle.eco_functions.specs.Functions.{HasOneMore, LastIsInterpolant}
use Rattle.eco_progress.specs.Extended.{IsExtended}
use Rattle.eco_progress.specs.Reported.{nets_in}
use Rattle.eco_progress.proofs.MoreLaws.{as_posed, of_posed}
use Rattle.eco_progress.proofs.extending.with_function.Goals as goal

pub with_target-requires-clause-apart : goal.with_target-requires-clause-apart
with_target-requires-clause-apart g c =
    let chosen = c.args.chosen.now in
    let can = c.requires.chosen in
    as_posed IsApart chosen.posed chosen.trace.originals c.side.result.now c.shared.result.now can.refuted.originals c.side.ensures c.shared.ensures can.apart

pub returns-in-Ok-clause-functions : goal.returns-in-Ok-clause-functions
returns-in-Ok-clause-functions g c =
    let chosen = c.args.chosen.now in
    let functions = c.args.functions in
    let split : Split = record { clauses = chosen.trace.originals; marks = c.side.result.now } in
    let nets = c.as_slice-in-Ok.ensures.value ∙ c.in-Ok.ensures ∙ ap nets_in c.as_slice.ensures.value in
    IfOk-both c.with_target.result (HasOneMore functions c.as_slice-in-Ok.result.now) (LastIsInterpolant split c.shared.result.now) (IsExtended functions chosen)
    (λ extended more between. record {
      more = subst (λ (l : List NetId). HasOneMore functions l extended) nets more;
      between = of_posed (λ (s : Split) (l : List Var). LastIsInterpolant s l extended) chosen.posed chosen.trace.originals c.side.result.now c.shared.result.now
          c.requires.chosen.refuted.originals c.side.ensures c.shared.ensures between;
    })
    c.with_target.ensures.more c.with_target.ensures.between
