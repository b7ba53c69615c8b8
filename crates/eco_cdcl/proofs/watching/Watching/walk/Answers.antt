-- At the end of the list one more literal was gone through.
use Rattle.std.proofs.Common.{arith}
use Rattle.eco_trace.specs.Resolution.{clauses_of}
use Rattle.eco_cdcl.proofs.Walking.{walk_end}
use Rattle.eco_cdcl.proofs.Moving.{walked_within, walked_few}
use Rattle.eco_cdcl.proofs.watching.Watching.walk.Goals as goal

pub returns-clause-ready : goal.returns-clause-ready
returns-clause-ready c =
    let s = c.loop-at.self in
    walk_end (clauses_of c.args.trace.now) s.trail s.done s.pairs s.lists c.args.lit c.loop-at.at c.loop-at.invariant.walking (omega arith)

pub len-requires : goal.len-requires
len-requires c =
    let s = c.args.self.now in
    let below = walked_within (clauses_of c.args.trace.now) s.trail s.done s.pairs s.lists c.args.lit 0 c.is_sound.ensures.sound c.requires.walking in
    let wide = c.loop-at.invariant.walking.ready.wide in
    let vars = c.loop-at.invariant.longer.vars in
    omega arith

pub overflow_add-self : goal.overflow_add-self
overflow_add-self c =
    let s = c.args.self.now in
    let small = walked_few (clauses_of c.args.trace.now) s.trail s.done s.pairs s.lists c.args.lit 0 c.is_sound.ensures.sound c.requires.walking in
    let same = c.loop-at.invariant.done in
    omega arith
