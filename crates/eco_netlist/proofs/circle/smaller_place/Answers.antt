use Rattle.std.proofs.Common.{[], sym, get_or}
use Rattle.eco_netlist.proofs.CircleLemmas.{at_place, no_later_less}
use Rattle.eco_netlist.proofs.RefusalLemmas.{no_later_itself}
use Rattle.eco_netlist.proofs.circle.smaller_place.Goals as goal

pub returns-then-lt-clause-least : goal.returns-then-lt-clause-least
returns-then-lt-clause-least c =
    rw (
      at_place c.args.names.now c.args.least c.index-names-least.result [] c.requires.least c.index-names-least.is,
      at_place c.args.names.now c.args.place c.index-names-place.result [] c.requires.place c.index-names-place.is,
    )
    (no_later_less c.index-names-place.result c.index-names-least.result (sym c.if-lt.ensures))

pub returns-then-lt-clause-place : goal.returns-then-lt-clause-place
returns-then-lt-clause-place c = no_later_itself (get_or c.args.names.now c.args.place [])

pub returns-else-lt-clause-least : goal.returns-else-lt-clause-least
returns-else-lt-clause-least c = no_later_itself (get_or c.args.names.now c.args.least [])
