-- One more net, and at the end all of them.
use Rattle.std.specs.Option.{MatchOption}
use Rattle.std.proofs.Common.{◌≡◌, ◌+◌, [], ◌∷◌, Option, length, vec_len, length-append, arith, ap, subst}
use Rattle.eco_lists.proofs.Places.{no_items}
use Rattle.eco_gates.specs.declared.gate.NetId.{NetId}
use Rattle.eco_locate.specs.Judged.{IsJudgedTo}
use Rattle.eco_locate.proofs.JudgedLemmas.{judged_all}
use Rattle.eco_locate.proofs.locating.ask_all.Goals as goal

pub judge_next-requires-clause-progress : goal.judge_next-requires-clause-progress
judge_next-requires-clause-progress g c =
    subst (λ left. IsJudgedTo c.args.change.now.old c.args.change.now.goal c.args.limit left c.loop-net.progress.located) c.in-Some.ensures.items c.loop-net.invariant

pub loop-net-smaller : goal.loop-net-smaller
loop-net-smaller g c =
    omega (arith, c.in_ok-judge_next.ensures.fewer, ap length c.in-Some.ensures.items, length-append c.pop.new.self.items (c.in-Some.net ∷ []))

pub returns : goal.returns
returns g c =
    let left = c.loop-net.progress.left in
    let rest = c.pop.new.self in
    let (empty, _) = subst (λ (r : Option NetId). MatchOption r ((vec_len left ≡ 0) × (vec_len rest ≡ 0)) (λ _. vec_len rest + 1 ≡ vec_len left)) c.in_default.is c.pop.ensures.cases in
    let none : left.items ≡ [] = no_items left.items (omega (arith, left.ok.0, empty)) in
    judged_all c.args.change.now.old c.args.change.now.goal c.args.limit c.loop-net.progress.located
    (subst (λ nets. IsJudgedTo c.args.change.now.old c.args.change.now.goal c.args.limit nets c.loop-net.progress.located) none c.loop-net.invariant)
