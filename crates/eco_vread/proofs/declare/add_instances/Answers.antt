use Rattle.std.proofs.Common.{rules, arith}
use Rattle.std.proofs.lemmas.Grind.{common_steps}
use Rattle.eco_vread.proofs.Declarations.{gates_same}
use Rattle.eco_vread.proofs.declare.add_instances.Goals as goal

pub loop-instance-preserved : goal.loop-instance-preserved
loop-instance-preserved c =
    let same = gates_same c.args.kind c.in-Some.instance in
    record {
      declared = grind (arith, common_steps, same);
      proper = search rules;
    }
