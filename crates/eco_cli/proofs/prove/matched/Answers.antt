use Rattle.eco_equality.proofs.SamePorts.{same_ports}
use Rattle.eco_cli.proofs.ProveStages.{port_halts}
use Rattle.eco_cli.proofs.prove.matched.Goals as goal

pub returns-in-None-clause-comparable : goal.returns-in-None-clause-comparable
returns-in-None-clause-comparable c = record {
  left_closed = c.requires.left_closed;
  right_closed = c.requires.right_closed;
  ports = same_ports c.args.left c.args.right c.nets.ensures.checked c.nets-2.ensures.checked c.in-None.ensures;
}

pub returns-in-Some-clause-ends : goal.returns-in-Some-clause-ends
returns-in-Some-clause-ends c = λ options store.
    port_halts options c.args.left c.args.right c.in-Some.name.now store c.of_port-halt.result c.in-Some.ensures c.of_port-halt.ensures
