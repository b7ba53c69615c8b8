-- The inputs are known again.
use Rattle.std.proofs.Common.{Option, refl}
use Rattle.std.specs.Option.{IfSome}
use Rattle.std.proofs.lemmas.Result.{IfOk-weaker}
use Rattle.eco_base.specs.declared.separating.Refutation.{Refutation}
use Rattle.eco_base.specs.Fronts.{IsDone, IsKeptAtEnd}
use Rattle.eco_base.proofs.WalkLaws.{forcing_as, kept_at_end}
use Rattle.eco_base.proofs.walking.walk_from.Goals as goal

pub returns-clause-kept : goal.returns-clause-kept
returns-clause-kept g c =
    let stage = c.args.stage.now in
    let state = c.run_within-found.new.state in
    IfOk-weaker c.run_within-found.result (λ (found : Option Refutation). IfSome found (IsDone stage state)) (λ (found : Option Refutation). IfSome found (IsKeptAtEnd stage state.kept))
    (kept_at_end stage state state.kept refl) c.run_within-found.ensures.done

pub returns-clause-known : goal.returns-clause-known
returns-clause-known g c =
    let state = c.run_within-found.new.state in
    forcing_as c.args.stage.now c.exchange.new.inputs.items state.ones.inputs c.exchange-2.new.inputs.items state.zeros.inputs
    c.exchange.ensures.inputs c.exchange-2.ensures.inputs c.run_within-found.ensures.forcing
