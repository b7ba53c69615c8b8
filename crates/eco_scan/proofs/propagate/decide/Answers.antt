-- Nothing is known of the variable.
use Rattle.std.proofs.Common.{false, refl, sym, subst}
use Rattle.eco_trace.specs.Resolution.{clauses_of}
use Rattle.eco_learn.specs.Trails.{Known}
use Rattle.eco_scan.specs.Scanning.{IsReady}
use Rattle.eco_scan.proofs.ReadyLaws.{ready_decided}
use Rattle.eco_scan.proofs.propagate.decide.Goals as goal

pub decide-requires-clause-within : goal.decide-requires-clause-within
decide-requires-clause-within c = c.in-Some.ensures.within (record { var = c.in-Some.var; positive = false }) refl

pub returns-in_ok-decide-in-Some-clause-ready : goal.returns-in_ok-decide-in-Some-clause-ready
returns-in_ok-decide-in-Some-clause-ready c =
    subst (λ (k : Known). IsReady (clauses_of c.args.trace.now) k) (sym c.in_ok-decide-in-Some.ensures.ok) (
    ready_decided (clauses_of c.args.trace.now) c.args.trail.now (record { var = c.in-Some.var; positive = false }) c.is_sound.ensures.sound c.requires.ready c.requires.unforced)
