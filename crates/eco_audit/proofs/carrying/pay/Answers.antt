-- One carrier more has paid.
use Rattle.std.proofs.Common.{◌≡◌, ◌<◌, length, MatchOption, Some, ap, subst, sym, arith, ◌∙◌}
use Rattle.std.specs.List.{slice_get}
use Rattle.std.proofs.lemmas.Option.{slice_get-get_or}
use Rattle.eco_audit.specs.Carriers.{IsPaid, IsShort}
use Rattle.eco_audit.proofs.Carriers.{one_more_paid, all_paid}
use Rattle.eco_audit.proofs.carrying.pay.Goals as goal

pub loop-place-preserved : goal.loop-place-preserved
loop-place-preserved c =
    let ones = c.args.ones.now in
    let zeros = c.args.zeros.now in
    let carriers = c.loop-place.carriers.items in
    let carrier = c.index.result.now in
    let less : c.loop-place.place < length carriers = omega (arith, c.loop-place-test.true, c.len-place-end.ensures, c.args.carriers.now.ok.0, c.loop-place.invariant.len) in
    let at : slice_get carriers c.loop-place.place ≡ Some carrier = slice_get-get_or carriers c.loop-place.place carrier less ∙ ap Some (sym c.index.ensures) in
    one_more_paid ones zeros c.args.amount c.args.carriers.now.items carriers c.loop-place.place carrier c.in-Some.carrier at
    (subst (λ o. MatchOption o (IsShort ones zeros c.args.amount carrier) (IsPaid ones zeros c.args.amount carrier)) c.in-Some.is c.paid.ensures) c.loop-place.invariant

pub returns : goal.returns
returns c =
    all_paid c.args.ones.now c.args.zeros.now c.args.amount c.args.carriers.now.items c.loop-place.carriers.items c.loop-place.place
    (omega (arith, c.loop-place-test.false, c.len-place-end.ensures, c.args.carriers.now.ok.0, c.loop-place.invariant.len)) c.loop-place.invariant
