use Rattle.std.proofs.Common.{sym, subst}
use Rattle.eco_meaning.specs.Circuit.{Circuit, names}
use Rattle.eco_netlist.specs.Netlists.{AreNets}
use Rattle.eco_netlist.proofs.FanNames.{marks_of_netlist}
use Rattle.eco_netlist.proofs.netlist.Netlist.fan_out.Goals as goal

pub returns-clause-fan_out : goal.returns-clause-fan_out
returns-clause-fan_out c =
    rw (← c.self.view_is)
    (marks_of_netlist c.self.inside c.self.invariant c.args.from.now c.in_ok-marks.marks.items
    (subst (λ (n : Circuit). AreNets (names n) c.args.from.now) (sym c.self.view_is) c.requires) (rw c.as_slice.ensures.value at c.in_ok-marks.ensures.fan_out))
