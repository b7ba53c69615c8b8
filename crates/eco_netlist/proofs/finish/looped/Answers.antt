use Rattle.std.proofs.Common.{List, subst, map}
use Rattle.eco_gates.specs.GateValue.{GateValue}
use Rattle.eco_netlist.specs.Building.{output_name, IsTurned}
use Rattle.eco_netlist.specs.Refusals.{}
use Rattle.eco_netlist.proofs.LoopLemmas.{name_loop}
use Rattle.eco_netlist.proofs.finish.looped.Goals as goal

pub returns-in-Ok : goal.returns-in-Ok
returns-in-Ok c = λ rule d parts. (
  parts.sound,
  name_loop rule d c.args.parts.now.names.keys c.args.parts.now.gates.items c.args.circle.now c.in-Ok.names parts c.requires.circle
      (subst (λ (gates : List GateValue). IsTurned (map (output_name c.args.parts.now.names.keys gates) c.args.circle.now) c.in-Ok.names)
      c.as_slice.ensures.value c.in-Ok.ensures.turned)
      c.in-Ok.ensures.smallest,
)
