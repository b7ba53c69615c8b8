-- The classes are those that were handed in.
use Rattle.std.proofs.Common.{sym, subst}
use Rattle.eco_cover.specs.Classes.{AreNamed}
use Rattle.eco_cover.proofs.classes.split_at.Goals as goal

pub split-requires-clause-named : goal.split-requires-clause-named
split-requires-clause-named c = subst AreNamed (sym c.as_slice.ensures.value) c.requires.named
