-- The clause forces its last literal, or is wrong, and the walk goes on.
use Rattle.std.proofs.Common.{◌+◌, sym, subst, arith}
use Rattle.std.proofs.lemmas.Option.{slice_get_within}
use Rattle.eco_cdcl.specs.Entries.{list_of}
use Rattle.eco_cdcl.specs.Watching.{IsReady, IsWalking}
use Rattle.eco_cdcl.proofs.Walking.{walk_true}
use Rattle.eco_cdcl.proofs.Moving.{last_wrong, walk_forced}
use Rattle.eco_cdcl.proofs.watching.Watching.force.Goals as goal

pub returns-in-True-clause-ready : goal.returns-in-True-clause-ready
returns-in-True-clause-ready c = λ cs walking last. walking.ready

pub returns-in-True-clause-visited : goal.returns-in-True-clause-visited
returns-in-True-clause-visited c = λ cs walking last.
    let s = c.args.self.now in
    let e = c.requires.at in
    let lt = slice_get_within (list_of s.lists c.args.lit) c.args.at e.watch e.watch_at in
    (walk_true cs s.trail s.done s.pairs s.lists c.args.lit c.args.at c.args.node c.args.other walking c.requires.at c.in-True.ensures, omega arith)

pub returns-in-False-clause-ready : goal.returns-in-False-clause-ready
returns-in-False-clause-ready c = λ cs walking last. walking.ready

pub returns-in-False-clause-visited : goal.returns-in-False-clause-visited
returns-in-False-clause-visited c = λ cs walking last. last_wrong cs c.args.self.now.trail.lits c.args.node c.args.other last c.in-False.ensures

pub returns-in-Open-clause-ready : goal.returns-in-Open-clause-ready
returns-in-Open-clause-ready c = λ cs walking last.
    let s = c.args.self.now in
    let w = walk_forced cs s.trail s.done s.pairs s.lists c.args.lit c.args.at c.args.node c.args.other c.is_sound.ensures.sound walking c.requires.at last in
    subst (λ k. IsReady cs k s.done s.pairs s.lists) (sym c.imply.ensures.implied) w.ready

pub returns-in-Open-clause-visited : goal.returns-in-Open-clause-visited
returns-in-Open-clause-visited c = λ cs walking last.
    let s = c.args.self.now in
    let e = c.requires.at in
    let lt = slice_get_within (list_of s.lists c.args.lit) c.args.at e.watch e.watch_at in
    let w = walk_forced cs s.trail s.done s.pairs s.lists c.args.lit c.args.at c.args.node c.args.other c.is_sound.ensures.sound walking c.requires.at last in
    (subst (λ k. IsWalking cs k s.done s.pairs s.lists c.args.lit (c.args.at + 1)) (sym c.imply.ensures.implied) w, omega arith)
