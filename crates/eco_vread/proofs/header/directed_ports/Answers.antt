use Rattle.std.proofs.Common.{rules, map, codes}
use Rattle.eco_vread.specs.Trees.{left, port_of}
use Rattle.eco_vread.specs.Fronts.{list_at}
use Rattle.eco_vread.specs.Parse.{directed_port_at}
use Rattle.eco_vread.proofs.Repeats.{fault_in_list, end_of_list, step_of_list, elements_shrink, stepped}
use Rattle.eco_vread.proofs.Headers.{directed_less}
use Rattle.eco_vread.proofs.header.directed_ports.Goals as goal

pub returns-in_err-port : goal.returns-in_err-port
returns-in_err-port c = search (rules, fault_in_list directed_port_at (codes ")") directed_less (map port_of c.loop-ports.ports.items) (left c.loop-ports.here) (list_at directed_port_at (codes ")") (left c.args.at)) c.loop-ports.invariant)

pub returns-then-not-is_more : goal.returns-then-not-is_more
returns-then-not-is_more c =
    end_of_list directed_port_at (codes ")") directed_less port_of c.loop-ports.ports.items c.push.new.self.items c.in_ok-port.port c.in_ok-port.is_more (left c.loop-ports.here) (left c.in_ok-port.next) _ c.loop-ports.invariant (search rules) (search rules) (search rules)

pub loop-ports-preserved : goal.loop-ports-preserved
loop-ports-preserved c =
    step_of_list directed_port_at (codes ")") directed_less port_of c.loop-ports.ports.items c.push.new.self.items c.in_ok-port.port c.in_ok-port.is_more (left c.loop-ports.here) (left c.in_ok-port.next) _ c.loop-ports.invariant (search rules) (search rules) (search rules)

pub loop-ports-smaller : goal.loop-ports-smaller
loop-ports-smaller c =
    (elements_shrink directed_port_at (codes ")") directed_less).less (left c.loop-ports.here) (left c.in_ok-port.next) (stepped c.in_ok-port.is_more (port_of c.in_ok-port.port)) (search rules)
