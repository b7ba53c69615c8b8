-- The entry has another blocker, and the walk goes on.
use Rattle.std.proofs.Common.{◌≡◌, slice_set, subst, arith}
use Rattle.std.proofs.lemmas.Option.{slice_get_within}
use Rattle.eco_cdcl.specs.Entries.{list_of, IsChanged}
use Rattle.eco_cdcl.proofs.Truths.{code_small}
use Rattle.eco_cdcl.proofs.Walking.{walk_refreshed, walk_true}
use Rattle.eco_cdcl.proofs.watching.Watching.refresh.Goals as goal

pub new-requires : goal.new-requires
new-requires c = code_small c.args.self.now.trail c.is_sound.ensures.sound c.args.other c.requires.other

pub set-requires-clause-place : goal.set-requires-clause-place
set-requires-clause-place c =
    let e = c.requires.at in
    slice_get_within (list_of c.args.self.now.lists c.args.lit) c.args.at e.watch e.watch_at

pub returns-clause-ready : goal.returns-clause-ready
returns-clause-ready c = λ cs walking.
    let s = c.args.self.now in
    let r = walk_refreshed cs s.trail s.done s.pairs s.lists c.set.new.self c.args.lit c.args.at c.args.node c.args.other walking c.requires.at (subst (λ w. IsChanged s.lists c.set.new.self c.args.lit (λ a b. b ≡ slice_set a c.args.at w)) c.in_ok-entry.ensures c.set.ensures) in
    r.0.ready

pub returns-clause-visited : goal.returns-clause-visited
returns-clause-visited c = λ cs walking.
    let s = c.args.self.now in
    let e = c.requires.at in
    let lt = slice_get_within (list_of s.lists c.args.lit) c.args.at e.watch e.watch_at in
    let r = walk_refreshed cs s.trail s.done s.pairs s.lists c.set.new.self c.args.lit c.args.at c.args.node c.args.other walking c.requires.at (subst (λ w. IsChanged s.lists c.set.new.self c.args.lit (λ a b. b ≡ slice_set a c.args.at w)) c.in_ok-entry.ensures c.set.ensures) in
    let long = r.2 in
    (walk_true cs s.trail s.done s.pairs c.set.new.self c.args.lit c.args.at c.args.node c.args.other r.0 r.1 c.requires.holds, omega arith)
