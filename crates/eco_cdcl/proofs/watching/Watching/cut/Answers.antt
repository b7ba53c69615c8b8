-- Cut back to the end of a level.
use Rattle.std.proofs.Common.{sym, subst}
use Rattle.eco_learn.specs.Trails.{cut_to}
use Rattle.eco_cdcl.specs.Watching.{IsReady}
use Rattle.eco_cdcl.proofs.Readiness.{ready_cut}
use Rattle.eco_cdcl.proofs.watching.Watching.cut.Goals as goal

pub returns-clause-ready : goal.returns-clause-ready
returns-clause-ready c = λ cs ready.
    let s = c.args.self.now in
    subst (λ k. IsReady cs k c.end-self.result s.pairs s.lists) (sym c.cut.ensures.cut)
    (subst (λ d. IsReady cs (cut_to s.trail c.args.level) d s.pairs s.lists) (sym c.end-self.ensures.end)
    (ready_cut cs s.trail s.done s.pairs s.lists c.args.level c.is_sound.ensures.sound ready c.requires.level))
