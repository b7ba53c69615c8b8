use Rattle.eco_gen.proofs.Checked.{checked}
use Rattle.eco_gen.proofs.nets.implementation.Goals as goal

pub finish_plain-requires : goal.finish_plain-requires
finish_plain-requires c =
    rw c.in_ok-declared.ensures (checked c.args.draws.now.seed c.args.draws.now.size c.args.targets c.requires)
