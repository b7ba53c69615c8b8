-- The clause watches another literal, and its entry stands in that one's list.
use Rattle.std.proofs.Common.{◌≡◌, [], ◌∷◌, ◌++◌, length, sym, ap, ◌∙◌, subst, arith}
use Rattle.std.proofs.lemmas.List.{length-set}
use Rattle.std.proofs.lemmas.Option.{slice_get_within}
use Rattle.eco_cdcl.specs.Entries.{list_of, IsChanged}
use Rattle.eco_cdcl.specs.Pairs.{moved_to}
use Rattle.eco_cdcl.specs.Watching.{IsReady, IsWalking}
use Rattle.eco_cdcl.proofs.Truths.{code_small, code_within}
use Rattle.eco_cdcl.proofs.Moving.{walk_moved}
use Rattle.eco_cdcl.proofs.watching.Watching.replace.Goals as goal

pub new-requires : goal.new-requires
new-requires c = code_small c.args.self.now.trail c.is_sound.ensures.sound c.args.other c.requires.other

pub set-requires-clause-other : goal.set-requires-clause-other
set-requires-clause-other c = code_small c.args.self.now.trail c.is_sound.ensures.sound c.args.next c.requires.next

pub set-requires-clause-within : goal.set-requires-clause-within
set-requires-clause-within c =
    let e = c.requires.at in
    slice_get_within c.args.self.now.pairs c.args.node.0 e.two e.two_at

pub take_out-requires-clause-place : goal.take_out-requires-clause-place
take_out-requires-clause-place c =
    let e = c.requires.at in
    slice_get_within (list_of c.args.self.now.lists c.args.lit) c.args.at e.watch e.watch_at

pub push-requires : goal.push-requires
push-requires c =
    let below = code_within c.args.self.now.trail.vars c.args.next c.requires.next in
    let wide = c.requires.wide in
    let count = c.take_out.ensures.count in
    omega arith

pub returns-clause-ready : goal.returns-clause-ready
returns-clause-ready c = λ cs walking next.
    let s = c.args.self.now in
    let pushed = subst (λ w. IsChanged c.take_out.new.self c.push.new.self c.args.next (λ a b. b ≡ a ++ w ∷ [])) c.in_ok-entry.ensures c.in_ok-push.ensures in
    let w = walk_moved cs s.trail s.done s.pairs s.lists c.take_out.new.self c.push.new.self c.args.lit c.args.at c.args.node c.args.other c.args.next c.is_sound.ensures.sound walking c.requires.at next c.take_out.ensures pushed in
    subst (λ ps. IsReady cs s.trail s.done ps c.push.new.self) (sym (c.set.ensures c.requires.at.two c.requires.at.two_at)) w.0.ready

pub returns-clause-full : goal.returns-clause-full
returns-clause-full c =
    let e = c.requires.at in
    ap length (c.set.ensures e.two e.two_at) ∙ length-set c.args.self.now.pairs c.args.node.0 (moved_to e.two c.args.other c.args.next)

pub returns-clause-visited : goal.returns-clause-visited
returns-clause-visited c = λ cs walking next.
    let s = c.args.self.now in
    let e = c.requires.at in
    let lt = slice_get_within (list_of s.lists c.args.lit) c.args.at e.watch e.watch_at in
    let pushed = subst (λ w. IsChanged c.take_out.new.self c.push.new.self c.args.next (λ a b. b ≡ a ++ w ∷ [])) c.in_ok-entry.ensures c.in_ok-push.ensures in
    let w = walk_moved cs s.trail s.done s.pairs s.lists c.take_out.new.self c.push.new.self c.args.lit c.args.at c.args.node c.args.other c.args.next c.is_sound.ensures.sound walking c.requires.at next c.take_out.ensures pushed in
    let shorter = w.1 in
    (subst (λ ps. IsWalking cs s.trail s.done ps c.push.new.self c.args.lit c.args.at) (sym (c.set.ensures e.two e.two_at)) w.0, omega arith)
