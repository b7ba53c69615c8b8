-- The net goes into the list that its verdict tells.
use Rattle.std.proofs.Common.{◌<◌, [], ◌∷◌, ◌++◌, length, refl, sym, subst}
use Rattle.eco_lists.proofs.Members.{All-front}
use Rattle.eco_meaning.specs.Circuit.{names}
use Rattle.eco_gates.specs.declared.gate.NetId.{NetId}
use Rattle.eco_netlist.specs.Netlists.{name_at}
use Rattle.eco_locate.specs.declared.answer.Located.{Located}
use Rattle.eco_locate.specs.declared.answer.Open.{Open}
use Rattle.eco_locate.specs.Questions.{IsGivenUpOn, TellsNets}
use Rattle.eco_locate.proofs.JudgedLemmas.{next_within, next_driven, left_within, goes_listed, goes_over}
use Rattle.eco_locate.proofs.locating.judge_next.Goals as goal

pub judge_one-requires-clause-within : goal.judge_one-requires-clause-within
judge_one-requires-clause-within g c =
    next_within c.args.change.now.old c.args.change.now.goal c.args.limit c.args.progress.now.left.items c.args.net c.args.progress.now.located c.requires.progress

pub judge_one-requires-clause-driven : goal.judge_one-requires-clause-driven
judge_one-requires-clause-driven g c =
    next_driven c.args.change.now.old c.args.change.now.goal c.args.limit c.args.progress.now.left.items c.args.net c.args.progress.now.located c.requires.progress

pub exclude_with-requires-clause-within : goal.exclude_with-requires-clause-within
exclude_with-requires-clause-within g c =
    let f = c.args.change.now.old in
    let left = c.args.progress.now.left.items in
    let one = c.args.net ∷ [] in
    All-front (λ (net : NetId). net.0 < length (names f)) left one (left_within f c.args.change.now.goal c.args.limit (left ++ one) c.args.progress.now.located c.requires.progress)

pub returns-in_ok-push-in-Choice-clause-judged : goal.returns-in_ok-push-in-Choice-clause-judged
returns-in_ok-push-in-Choice-clause-judged g c =
    let f = c.args.change.now.old in
    let wanted = c.args.change.now.goal in
    let before = c.args.progress.now.located in
    let after : Located = record before { listed = c.push.new.self } in
    goes_listed f wanted c.args.limit before after c.args.progress.now.left.items c.args.net c.in_ok-push-in-Choice.ensures.items refl refl
    (subst (TellsNets f wanted c.args.limit (name_at (names f) c.args.net.0 ∷ [])) c.in-Choice.is c.in_ok-judge_one.ensures) c.requires.progress

pub returns-in_ok-push-in-GivenUp-clause-judged : goal.returns-in_ok-push-in-GivenUp-clause-judged
returns-in_ok-push-in-GivenUp-clause-judged g c =
    let f = c.args.change.now.old in
    let wanted = c.args.change.now.goal in
    let before = c.args.progress.now.located in
    let after : Located = record before { over = c.push-in-GivenUp.new.self } in
    let new : Open = record { net = c.args.net; stuck = c.into_inner-stuck.result } in
    let names = name_at (names f) c.args.net.0 ∷ [] in
    let given_up = subst (TellsNets f wanted c.args.limit names) c.in-GivenUp.is c.in_ok-judge_one.ensures in
    goes_over f wanted c.args.limit before after c.args.progress.now.left.items new refl c.in_ok-push-in-GivenUp.ensures.items refl
    (subst (IsGivenUpOn f wanted c.args.limit names) (sym c.into_inner-stuck.ensures) given_up) c.requires.progress
