-- One more line gives its edge.
use Rattle.std.proofs.Common.{subst}
use Rattle.std.specs.List.{All}
use Rattle.std.proofs.lemmas.List.{take_all}
use Rattle.std.proofs.lemmas.List.Elements.{All-more}
use Rattle.eco_splice.specs.Lines.{IsLine}
use Rattle.eco_functions.proofs.shorter.are_lines.Goals as goal

pub loop-line-preserved : goal.loop-line-preserved
loop-line-preserved c =
    let gives = IsLine c.args.aig.now in
    All-more gives c.args.lines.now c.loop-line.line-index c.line-item.result c.loop-line-test.true c.loop-line.invariant
    (subst gives c.line-item.is (c.in_ok-is_line.ensures.line c.if-not-branch.false))

pub returns : goal.returns
returns c = record {
  lines = λ yes_all. subst (All (IsLine c.args.aig.now)) (take_all c.loop-line.line-index c.args.lines.now c.loop-line-test.false) c.loop-line.invariant;
}
