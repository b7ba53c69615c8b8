-- The entry stands behind the others of its list.
use Rattle.std.proofs.Common.{◌≡◌, [], ◌∷◌, ◌++◌, refl}
use Rattle.eco_cdcl.proofs.ListLaws.{changed}
use Rattle.eco_cdcl.proofs.lists.Lists.push.Goals as goal

pub returns : goal.returns
returns c =
    changed (λ v. v.items) c.args.self.now c.self.inside.lists.items _ c.args.lit c.code.result c.index_mut-list.result.now c.push.new.self (λ old new. new ≡ old ++ c.args.entry ∷ []) c.self.view_is c.code.ensures c.requires c.index_mut-list.ensures.value refl c.in_ok-push.ensures.items
