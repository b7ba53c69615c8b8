-- The learnt clause forces its literal where the trail was cut back to.
use Rattle.std.proofs.Common.{sym, ap, ◌∙◌, subst}
use Rattle.eco_trace.specs.Resolution.{clauses_of}
use Rattle.eco_learn.specs.Trails.{implied, cut_to}
use Rattle.eco_learn.specs.Reasons.{IsReasonOf}
use Rattle.eco_cdcl.specs.Watching.{IsReady}
use Rattle.eco_cdcl.specs.Steps.{MayBegin}
use Rattle.eco_cdcl.proofs.Readiness.{ready_implied}
use Rattle.eco_cdcl.proofs.Beginning.{asserted_reason, asserted_begins}
use Rattle.eco_cdcl.proofs.watching.Watching.take_in.Goals as goal

pub attach-requires-clause-ready : goal.attach-requires-clause-ready
attach-requires-clause-ready c =
    let s = c.args.self.now in
    let n = c.cut.new.self in
    let a = c.args.assertion in
    let cs = clauses_of c.args.trace.now in
    let asserting = c.requires.asserting in
    let reason = subst (λ k. IsReasonOf cs k.lits a.lit a.node) (sym c.cut.ensures.cut) (asserted_reason cs s.trail asserting.0 a asserting.1 asserting.2) in
    subst (λ k. IsReady cs k n.done n.pairs n.lists) (sym c.imply.ensures.implied)
    (ready_implied cs n.trail n.done n.pairs n.lists a.lit a.node c.is_sound-2.ensures.sound (c.cut.ensures.ready cs c.requires.ready) reason)

pub attach-requires-clause-may : goal.attach-requires-clause-may
attach-requires-clause-may c =
    let s = c.args.self.now in
    let n = c.cut.new.self in
    let a = c.args.assertion in
    let cs = clauses_of c.args.trace.now in
    let asserting = c.requires.asserting in
    subst (λ k. MayBegin cs k n.done a.node a.lit a.other) (sym (c.imply.ensures.implied ∙ ap (λ k. implied k a.lit a.node) c.cut.ensures.cut))
    (subst (λ d. MayBegin cs (implied (cut_to s.trail a.level) a.lit a.node) d a.node a.lit a.other) (sym c.cut.ensures.done)
    (asserted_begins cs s.trail asserting.0 a c.is_sound.ensures.sound asserting.1 asserting.2))
