-- The name has a net, whose literal is the name's.
use Rattle.std.proofs.Common.{sym, ◌∙◌}
use Rattle.std.proofs.lemmas.Bool.{false≢true}
use Rattle.std.proofs.lemmas.Option.{MatchOption-at_none}
use Rattle.eco_meaning.specs.Circuit.{names}
use Rattle.eco_netlist.proofs.NameSets.{has-from_Contains}
use Rattle.eco_equality.proofs.numbering.literal_by_name.Goals as goal

pub unreachable-requires : goal.unreachable-requires
unreachable-requires c =
    false≢true (sym (MatchOption-at_none _ _ c.in-None.is c.net_of.ensures) ∙ has-from_Contains (names c.args.netlist.now) c.args.name.now c.requires.known)
