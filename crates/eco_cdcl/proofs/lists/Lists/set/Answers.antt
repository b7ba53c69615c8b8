-- The entry was written in its list.
use Rattle.std.proofs.Common.{◌≡◌, slice_set, refl}
use Rattle.eco_cdcl.proofs.ListLaws.{changed}
use Rattle.eco_cdcl.proofs.lists.Lists.set.Goals as goal

pub returns : goal.returns
returns c =
    changed (λ v. v.items) c.args.self.now c.self.inside.lists.items _ c.args.lit c.code.result c.index_mut-list.result.now _ (λ old new. new ≡ slice_set old c.args.at c.args.entry) c.self.view_is c.code.ensures c.requires.within c.index_mut-list.ensures.value refl refl
