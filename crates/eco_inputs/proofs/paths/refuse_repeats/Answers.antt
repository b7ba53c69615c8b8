use Rattle.std.proofs.Common.{sym, ◌∙◌, subst}
use Rattle.std.proofs.lemmas.List.{take_all}
use Rattle.eco_inputs.specs.Paths.{ArePathsApart, lent}
use Rattle.eco_inputs.proofs.PathLaws.{apart_more, first_at}
use Rattle.eco_inputs.proofs.paths.refuse_repeats.Goals as goal

pub returns-then-comes_again : goal.returns-then-comes_again
returns-then-comes_again g c =
    first_at c.args.files.now c.loop-index.index c.index-files-index.result c.loop-index-test.true c.index-files-index.is c.loop-index.invariant
    (sym c.comes_again.ensures ∙ c.if-comes_again.true)

pub loop-index-preserved : goal.loop-index-preserved
loop-index-preserved g c =
    apart_more c.args.files.now c.loop-index.index c.index-files-index.result c.loop-index-test.true c.index-files-index.is c.loop-index.invariant
    (sym c.comes_again.ensures ∙ c.if-comes_again.false)

pub returns : goal.returns
returns g c =
    subst (λ files. ArePathsApart (lent files)) (take_all c.loop-index.index c.args.files.now c.loop-index-test.false) c.loop-index.invariant
