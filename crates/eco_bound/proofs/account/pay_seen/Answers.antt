-- One part more, where something is left to all that tell the inputs apart.
use Rattle.std.proofs.Common.{◌≡◌, ◌∙◌, ◌<◌, List, map, sym, ap, subst, arith}
use Rattle.std.proofs.lemmas.Result.{on_ok_weaker}
use Rattle.eco_meaning.specs.Bound.{Part}
use Rattle.eco_netlist.specs.Netlists.{IsChecked}
use Rattle.eco_netlist.proofs.SoundNetlists.{sound_netlist}
use Rattle.eco_bound.specs.declared.payers.Payer.{Payer}
use Rattle.eco_bound.specs.Payers.{IsLeastLeft, lowered_by}
use Rattle.eco_bound.specs.Accounts.{HasPart, ShowsSpent, some_left}
use Rattle.eco_bound.proofs.AccountLaws.{less, room, with_part, least_is, nothing_paid}
use Rattle.eco_bound.proofs.account.pay_seen.Goals as goal

pub returns-then-amount-eq0-clause-less : goal.returns-then-amount-eq0-clause-less
returns-then-amount-eq0-clause-less c shows =
    let problem = c.args.problem.now in
    let account = c.args.account.now in
    let sight = c.args.sight.now in
    let sound = sound_netlist problem.implementation (subst IsChecked c.implementation.ensures.value c.nets.ensures.checked) in
    let least = subst (λ (list : List Payer). IsLeastLeft sight list c.least_left.result) c.as_slice.ensures.value c.least_left.ensures in
    absurd (nothing_paid problem account.payers.items c.args.one.now c.args.zero.now sight sound c.requires.rectifiable c.requires.account.payers c.requires.sight shows c.least_left.result least
    (sym c.unwrap_or-amount.ensures ∙ c.if-amount-eq0.true))

pub add_part-requires : goal.add_part-requires
add_part-requires c =
    let problem = c.args.problem.now in
    let account = c.args.account.now in
    let sight = c.args.sight.now in
    let amount = c.unwrap_or-amount.result in
    let sound = sound_netlist problem.implementation (subst IsChecked c.implementation.ensures.value c.nets.ensures.checked) in
    let least = subst (λ (list : List Payer). IsLeastLeft sight list c.least_left.result) c.as_slice.ensures.value c.least_left.ensures in
    let part : Part = record { amount = amount; force1 = c.args.one.now; force0 = c.args.zero.now } in
    let some = c.if-amount-eq0.false in
    let small = c.unwrap_or-amount.type_inv in
    record {
      room = room problem account sight part sound c.requires.account c.requires.sight
          (least_is sight account.payers.items c.least_left.result amount least c.unwrap_or-amount.ensures some) (omega (arith, some)) c.implementation.ensures.few_nets (omega (arith, small));
    }

pub returns-clause-account : goal.returns-clause-account
returns-clause-account c =
    let problem = c.args.problem.now in
    let account = c.args.account.now in
    let sight = c.args.sight.now in
    let amount = c.unwrap_or-amount.result in
    let sound = sound_netlist problem.implementation (subst IsChecked c.implementation.ensures.value c.nets.ensures.checked) in
    let least = subst (λ (list : List Payer). IsLeastLeft sight list c.least_left.result) c.as_slice.ensures.value c.least_left.ensures in
    let part : Part = record { amount = amount; force1 = c.args.one.now; force0 = c.args.zero.now } in
    let some = c.if-amount-eq0.false in
    let small = c.unwrap_or-amount.type_inv in
    on_ok_weaker c.add_part.result
    (with_part problem account sight part sound c.requires.account c.requires.sight
    (least_is sight account.payers.items c.least_left.result amount least c.unwrap_or-amount.ensures some) (omega (arith, some)) c.add_part.new.account c.requires.forcing (omega (arith, small)))
    c.add_part.ensures

pub returns-clause-less : goal.returns-clause-less
returns-clause-less c =
    let problem = c.args.problem.now in
    let account = c.args.account.now in
    let sight = c.args.sight.now in
    let amount = c.unwrap_or-amount.result in
    let sound = sound_netlist problem.implementation (subst IsChecked c.implementation.ensures.value c.nets.ensures.checked) in
    let least = subst (λ (list : List Payer). IsLeastLeft sight list c.least_left.result) c.as_slice.ensures.value c.least_left.ensures in
    let part : Part = record { amount = amount; force1 = c.args.one.now; force0 = c.args.zero.now } in
    let some = c.if-amount-eq0.false in
    let paid : HasPart sight part account c.add_part.new.account → ShowsSpent problem account.payers.items c.args.one.now c.args.zero.now → some_left c.add_part.new.account.payers.items < some_left account.payers.items = λ more _.
    let fewer = less problem account sight part sound c.requires.account c.requires.sight
    (least_is sight account.payers.items c.least_left.result amount least c.unwrap_or-amount.ensures some) (omega (arith, some)) in
    let left : some_left c.add_part.new.account.payers.items ≡ some_left (map (lowered_by sight amount) account.payers.items) = ap some_left more.payers in
    omega (arith, fewer, left) in
    on_ok_weaker c.add_part.result paid c.add_part.ensures
