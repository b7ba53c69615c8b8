-- What can be rectified with the patch in it is kept by the patch.
use Rattle.std.proofs.Common.{subst}
use Rattle.eco_meaning.specs.Circuit.{Circuit}
use Rattle.eco_meaning.specs.Meaning.{IsRectifiable}
use Rattle.eco_meaning.specs.Patch.{splice_of}
use Rattle.test_engine.proofs.FrontLaws.{kept_of_spliced}
use Rattle.test_engine.proofs.kept.is_kept.Goals as goal

pub returns : goal.returns
returns g c kept =
    let problem = c.args.problem.now in
    let f = problem.implementation in
    let patch = c.args.front.now.patch in
    let patched = c.patched-patched in
    let rectifiable = subst (λ (n : Circuit). IsRectifiable n patched.result.goal) patched.ensures.implementation (c.can_rectify-is_kept.ensures kept) in
    record {
      front = c.requires;
      kept = λ before. kept_of_spliced f patch problem.goal before (subst (IsRectifiable (splice_of f patch)) patched.ensures.goal rectifiable);
      first = c.is_first_free.ensures cc;
    }
