-- The learnt clause is news, and the search goes on with it.
use Rattle.std.proofs.Common.{subst}
use Rattle.eco_learn.specs.Lessons.{IsTaught}
use Rattle.eco_cdcl.proofs.Turning.{advances, more_at, more_ready}
use Rattle.eco_cdcl.proofs.search.Search.learn.Goals as goal

pub take-requires-clause-ready : goal.take-requires-clause-ready
take-requires-clause-ready g c =
    let w = c.args.self.now.watching in
    let taught = subst (IsTaught c.args.trace.now c.learn.new.trace w.trail) c.in-Asserted.is c.in_ok-learn.ensures.taught in
    more_ready c.args.trace.now c.learn.new.trace w.trail w.done w.pairs w.lists c.args.self.now.learner.vars c.in-Asserted.assertion c.is_sound.ensures.sound c.requires.on taught c.is_sound-in-Asserted.ensures.formed

pub take-requires-clause-asserting : goal.take-requires-clause-asserting
take-requires-clause-asserting g c =
    let w = c.args.self.now.watching in
    let taught = subst (IsTaught c.args.trace.now c.learn.new.trace w.trail) c.in-Asserted.is c.in_ok-learn.ensures.taught in
    more_at c.args.trace.now c.learn.new.trace w.trail c.in-Asserted.assertion taught

pub returns-in_ok-take-in-Asserted-clause-turned : goal.returns-in_ok-take-in-Asserted-clause-turned
returns-in_ok-take-in-Asserted-clause-turned g c =
    let w = c.args.self.now.watching in
    let taught = subst (IsTaught c.args.trace.now c.learn.new.trace w.trail) c.in-Asserted.is c.in_ok-learn.ensures.taught in
    (advances c.args.trace.now c.learn.new.trace w.trail w.done w.pairs w.lists c.args.self.now.learner.vars c.in-Asserted.assertion c.is_sound.ensures.sound c.requires.on taught, c.in_ok-take-in-Asserted.ensures.on)
