use Rattle.std.proofs.Common.{arith}
use Rattle.eco_gen.proofs.Checked.{checked}
use Rattle.eco_gen.proofs.nets.specification.Goals as goal

pub finish_plain-requires : goal.finish_plain-requires
finish_plain-requires c =
    rw c.in_ok-declared.ensures
    (checked c.args.draws.now.seed c.args.draws.now.size 0 (record {
      few_gates = c.args.draws.now.few_gates;
      few_targets = omega arith;
      room = omega arith;
    }))
