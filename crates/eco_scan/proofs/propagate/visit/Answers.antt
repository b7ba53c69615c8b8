-- The clause is a reason for the literal that it forces.
use Rattle.std.proofs.Common.{sym, subst}
use Rattle.eco_trace.specs.Resolution.{clauses_of}
use Rattle.eco_learn.specs.Trails.{Known}
use Rattle.eco_scan.specs.Scanning.{IsReady}
use Rattle.eco_scan.proofs.ReadyLaws.{ready_implied}
use Rattle.eco_scan.proofs.propagate.visit.Goals as goal

pub returns-in-Forces-clause-ready : goal.returns-in-Forces-clause-ready
returns-in-Forces-clause-ready c =
    let forced = c.in-Forces.ensures in
    subst (λ (k : Known). IsReady (clauses_of c.args.trace.now) k) (sym c.imply.ensures.implied) (
    ready_implied (clauses_of c.args.trace.now) c.args.trail.now c.in-Forces.lit c.args.node c.is_sound.ensures.sound c.requires.ready (
    record { clause = c.clause.result.now; clause_at = c.clause.ensures.clause; member = forced.member; others = forced.others }))
