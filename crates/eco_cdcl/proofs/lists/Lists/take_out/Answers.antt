-- The entry was taken out of its list.
use Rattle.std.proofs.Common.{subst, sym, refl, ap, length, arith}
use Rattle.eco_cdcl.specs.Entries.{IsTakenOut}
use Rattle.eco_cdcl.proofs.ListLaws.{changed, read_list, taken_out}
use Rattle.eco_cdcl.proofs.lists.Lists.take_out.Goals as goal

pub returns : goal.returns
returns c =
    let list = c.index_mut-list.result.now.items in
    let same = read_list (λ v. v.items) c.args.self.now c.self.inside.lists.items c.args.lit c.code.result c.index_mut-list.result.now c.self.view_is c.code.ensures c.requires.within c.index_mut-list.ensures.value in
    let long = ap length same in
    changed (λ v. v.items) c.args.self.now c.self.inside.lists.items _ c.args.lit c.code.result c.index_mut-list.result.now c.swap_remove-entry.new.self (IsTakenOut c.args.at) c.self.view_is c.code.ensures c.requires.within c.index_mut-list.ensures.value refl
    (subst (IsTakenOut c.args.at list) (sym c.swap_remove-entry.ensures.items) (taken_out list c.args.at c.swap_remove-entry.result (omega (arith, long, c.requires.place))))
