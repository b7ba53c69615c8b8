use Rattle.eco_meaning.specs.Circuit.{names}
use Rattle.eco_netlist.specs.Netlists.{names_at}
use Rattle.eco_netlist.proofs.BehindLemmas.{last_targets_from}
use Rattle.eco_netlist.proofs.netlist.Netlist.last_targets.Goals as goal

pub returns : goal.returns
returns c =
    last_targets_from c.args.self.now c.in_ok-lasts.lasts.items c.in_ok-lasts.ensures.lasts (names_at (names c.args.self.now) c.targets-targets.result.now) c.targets-targets.ensures.named
