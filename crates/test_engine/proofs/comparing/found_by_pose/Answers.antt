-- The netlists have the same ports, and the other one has no target.
use Rattle.std.proofs.Common.{◌≡◌, sym, ◌∙◌, subst}
use Rattle.std.proofs.lemmas.Result.{IfOk-at_ok}
use Rattle.eco_meaning.specs.Circuit.{Circuit}
use Rattle.eco_query.specs.Problem.{IsClosed}
use Rattle.eco_equality.specs.Equality.{HaveSamePorts}
use Rattle.test_engine.proofs.FrontLaws.{equal_askable}
use Rattle.test_engine.proofs.comparing.found_by_pose.Goals as goal

pub found_plainly-requires : goal.found_plainly-requires
found_plainly-requires g c =
    let problem = c.args.problem.now in
    let left = IfOk-at_ok (λ (n : Circuit). n ≡ c.specification.result.now) c.expect-left.ensures c.copy.ensures.same in
    let right = IfOk-at_ok (λ (n : Circuit). n ≡ c.args.right.now) c.expect-right.ensures c.copy-2.ensures.same in
    equal_askable problem c.expect-left.result c.expect-right.result c.care-care.result c.specification.ensures.problem (left ∙ c.specification.ensures.value) c.care-care.ensures.same
    c.nets.ensures.checked (subst IsClosed (sym right) c.requires.closed) (subst (HaveSamePorts problem.goal.spec) (sym right) c.requires.ports)
