use Rattle.std.proofs.Common.{refl}
use Rattle.eco_targets.proofs.Counting.{has_targets}
use Rattle.eco_cli.proofs.BoundLaws.{several_targets}
use Rattle.eco_cli.proofs.synth.bounded.Goals as goal

pub returns : goal.returns
returns c =
    let f = c.args.problem.implementation in
    let targets = has_targets f c.implementation.result.now c.targets.result.now c.implementation.ensures.value c.targets.ensures.named in
    λ store. (
      record {
        asked = c.if-not-command.false;
        count = _;
        targets = targets;
        several = several_targets f _ targets c.implementation.ensures.problem.targets c.if-count-eq1.false;
        told = refl;
      },
      tt,
    )
