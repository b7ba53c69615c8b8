-- The next target's base can be chosen.
use Rattle.std.proofs.Common.{arith, refl}
use Rattle.eco_progress.proofs.StepLaws.{first_next, ready_next}
use Rattle.eco_progress.proofs.progress.turn_to.Goals as goal

pub turn-requires-clause-ready : goal.turn-requires-clause-ready
turn-requires-clause-ready g c =
    let progress = c.args.progress.now in
    ready_next c.args.target.now.problem progress _ c.base-paid.result.now c.requires.progress (omega (arith, c.len-i.ensures, progress.groups.ok.0)) c.base-paid.ensures.base

pub turn-requires-clause-first : goal.turn-requires-clause-first
turn-requires-clause-first g c =
    let progress = c.args.progress.now in
    first_next c.args.target.now.problem progress _ c.requires.progress c.requires.number (omega (arith, c.len-i.ensures, progress.groups.ok.0))
