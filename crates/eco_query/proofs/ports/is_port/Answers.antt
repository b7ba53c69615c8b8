use Rattle.std.proofs.Common.{ltb, ap, ◌∙◌}
use Rattle.eco_meaning.specs.Circuit.{names}
use Rattle.eco_query.proofs.PortLemmas.{port-at, length-names_at}
use Rattle.eco_query.proofs.ports.is_port.Goals as goal

pub returns : goal.returns
returns c =
    let n = c.args.netlist.now in
    ap (ltb c.args.net.0) (length-names_at (names n) n.ports c.ports.result.now c.ports.ensures.named)
    ∙ port-at n.ports n.wires c.args.net.0 c.requires.checked.distinct c.requires.net
