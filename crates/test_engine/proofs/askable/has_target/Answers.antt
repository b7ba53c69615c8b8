-- The number is below the count of the targets.
use Rattle.std.proofs.Common.{length, subst}
use Rattle.std.proofs.lemmas.Bool.{ltb-true}
use Rattle.eco_meaning.specs.Circuit.{Circuit}
use Rattle.eco_query.specs.Problem.{HasTargetNumber}
use Rattle.test_engine.proofs.FrontLaws.{listed_number}
use Rattle.test_engine.proofs.askable.has_target.Goals as goal

pub returns : goal.returns
returns c = λ below.
    subst (λ (f : Circuit). HasTargetNumber f c.args.target) c.implementation.ensures.value
    (listed_number c.implementation.result.now c.targets.result.now c.args.target c.targets.ensures.named (ltb-true c.args.target (length c.targets.result.now) below))
