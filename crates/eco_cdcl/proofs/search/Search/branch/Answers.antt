-- All variables have values, or one more is decided.
use Rattle.std.proofs.Common.{refl}
use Rattle.eco_cdcl.proofs.Turning.{all_hold}
use Rattle.eco_cdcl.proofs.search.Search.branch.Goals as goal

pub returns-in-None-clause-stepped : goal.returns-in-None-clause-stepped
returns-in-None-clause-stepped g c = λ proof on.
    let w = c.args.self.now.watching in
    all_hold proof w.trail w.done w.pairs w.lists c.args.self.now.learner.vars on c.requires.all c.in-None.ensures

pub decide-requires-clause-within : goal.decide-requires-clause-within
decide-requires-clause-within g c = c.in-Some.ensures.within c.in-Some.lit refl
