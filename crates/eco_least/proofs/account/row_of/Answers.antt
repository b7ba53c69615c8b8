-- The row of two seen inputs.
use Rattle.std.proofs.Common.{List, sym, subst}
use Rattle.std.specs.List.{Contains}
use Rattle.std.specs.Option.{IfSome}
use Rattle.std.proofs.lemmas.Result.{IfOk-weaker}
use Rattle.eco_least.specs.declared.sights.Sight.{Sight}
use Rattle.eco_least.specs.Telling.{TellsApart}
use Rattle.eco_least.specs.Rows.{IsRow}
use Rattle.eco_least.proofs.AccountLaws.{row_told}
use Rattle.eco_least.proofs.account.row_of.Goals as goal

pub returns-in-Some-Some : goal.returns-in-Some-Some
returns-in-Some-Some c t is =
    let weighed = c.args.weighed.now in
    let account = c.args.account.now in
    let one = c.in-Some-Some.one.now in
    let zero_sight = c.in-Some-Some.zero.now in
    let in_ones : Contains account.ones.items one =
    subst (λ (list : List Sight). Contains list one) c.deref.ensures.value (_, c.in-Some-Some.ensures.lookup.3.0, sym c.in-Some-Some.ensures.lookup.1) in
    let in_zeros : Contains account.zeros.items zero_sight =
    subst (λ (list : List Sight). Contains list zero_sight) c.deref-2.ensures.value (_, c.in-Some-Some.ensures'.lookup.3.0, sym c.in-Some-Some.ensures'.lookup.1) in
    IfOk-weaker c.tell_apart.result (λ row. IfSome row (TellsApart one zero_sight)) (λ row. IfSome row (IsRow t weighed))
    (row_told t weighed account is one zero_sight in_ones in_zeros) c.tell_apart.ensures
