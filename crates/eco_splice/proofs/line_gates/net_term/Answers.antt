use Rattle.eco_splice.proofs.FirstPlaces.{place_member}
use Rattle.eco_splice.proofs.line_gates.net_term.Goals as goal

pub place-place-requires-clause-node : goal.place-place-requires-clause-node
place-place-requires-clause-node c = c.requires.placed.within c.args.operand (place_member c.args.nets.now.places.now.edges.items c.args.operand c.requires.listed)
