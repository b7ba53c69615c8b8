-- What is seen at later inputs goes behind the rest.
use Rattle.std.proofs.Common.{List, sym, subst}
use Rattle.eco_least.specs.declared.sights.Sight.{Sight}
use Rattle.eco_least.specs.Rows.{AreSeen}
use Rattle.eco_least.proofs.AccountLaws.{forcing_later, seen_more}
use Rattle.eco_least.proofs.account.see_behind.Goals as goal

pub returns : goal.returns
returns g c bit forcing seen =
    let t = c.args.target.now in
    let weighed = c.args.weighed.now in
    let later = c.split_at.result.1.now in
    subst (λ (list : List Sight). AreSeen t weighed bit list) (sym c.in_ok-append.ensures)
    (seen_more t weighed bit later c.args.sights.now.items c.in_ok-more.more.items
    (forcing_later t weighed bit _ c.args.inputs.now later c.split_at.ensures.back forcing) c.in_ok-more.ensures seen)
