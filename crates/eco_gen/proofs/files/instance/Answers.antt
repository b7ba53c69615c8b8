use Rattle.std.proofs.Common.{◌∙◌}
use Rattle.eco_gen.proofs.Pairs.{may_cut}
use Rattle.eco_gen.proofs.Structure.{few_kept}
use Rattle.eco_gen.proofs.files.instance.Goals as goal

pub new-requires-clause-few_kept : goal.new-requires-clause-few_kept
new-requires-clause-few_kept c = rw (c.as_slice-kept.ensures.value, c.in_ok-kept.ensures) (few_kept c.args.size c.args.targets)

pub returns : goal.returns
returns c =
    let f = rw (c.in_ok-draws.ensures.seed, c.in_ok-draws.ensures.size) at c.in_ok-implementation.ensures in
    let g = rw (c.in_ok-draws.ensures.seed, c.in_ok-draws.ensures.size) at c.in_ok-specification.ensures in
    let w = rw (c.in_ok-draws.ensures.seed, c.in_ok-draws.ensures.size) at c.in_ok-weights.ensures in
    let kept = c.as_slice-kept.ensures.value ∙ c.in_ok-kept.ensures in
    record {
      files = record {
        implementation = f.text;
        specification = g.text;
        weights = w.text c.args.targets kept;
        implementation_read = f.read;
        specification_read = g.read;
        weights_read = w.weights c.args.targets (may_cut c.args.size c.args.targets c.requires.numbers) kept;
      };
    }
