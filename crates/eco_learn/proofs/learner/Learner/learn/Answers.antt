-- Where nothing is marked, the chain gives the empty clause.
use Rattle.std.proofs.Common.{subst}
use Rattle.eco_trace.specs.Resolution.{clauses_of}
use Rattle.eco_learn.specs.Marks.{IsWalked}
use Rattle.eco_learn.proofs.AssertLaws.{gives_none}
use Rattle.eco_learn.proofs.learner.Learner.learn.Goals as goal

pub refute-requires : goal.refute-requires
refute-requires c =
    let chain = c.walk.new.self in
    let k = c.args.trail.now in
    record { empty = gives_none (clauses_of c.args.trace.now) k chain.start chain.links.items chain.marks c.in_ok-walk.ensures.so_far (subst (IsWalked k chain.marks) c.in-None.is c.in_ok-walk.ensures.walked) }

pub returns-in-None-clause-taught : goal.returns-in-None-clause-taught
returns-in-None-clause-taught c = c.refute.ensures.taught c.args.trail.now
