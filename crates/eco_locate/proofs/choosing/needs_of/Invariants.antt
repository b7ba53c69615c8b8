-- So many nets were asked about.
use Rattle.eco_meaning.specs.Circuit.{names}
use Rattle.eco_netlist.specs.Netlists.{names_at}
use Rattle.eco_locate.specs.Chosen.{AreNeeds}
use Rattle.eco_locate.proofs.choosing.needs_of.Given as goal

abbrev pub invariant-loop-place : goal.invariant-loop-place
invariant-loop-place g l = AreNeeds l.change.old l.change.goal l.limit (names_at (names l.change.old) l.nets) l.place l.needs.items
