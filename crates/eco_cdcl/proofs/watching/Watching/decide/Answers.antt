-- A new level.
use Rattle.std.proofs.Common.{sym, subst}
use Rattle.eco_cdcl.specs.Watching.{IsReady}
use Rattle.eco_cdcl.proofs.Readiness.{ready_decided}
use Rattle.eco_cdcl.proofs.watching.Watching.decide.Goals as goal

pub returns-clause-ready : goal.returns-clause-ready
returns-clause-ready c = λ cs ready.
    let s = c.args.self.now in
    subst (λ k. IsReady cs k s.done s.pairs s.lists) (sym c.in_ok-decide.ensures.ok)
    (ready_decided cs s.trail s.done s.pairs s.lists c.args.lit c.is_sound.ensures.sound ready c.requires.all)
