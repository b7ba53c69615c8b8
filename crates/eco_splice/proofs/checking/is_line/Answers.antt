-- A line that is built of the nodes between gives its edge.
use Rattle.std.proofs.Common.{IsTrue, ◌↔◌, subst, arith}
use Rattle.std.proofs.lemmas.Result.{IfOk-weaker}
use Rattle.eco_splice.specs.Lines.{IsLine}
use Rattle.eco_splice.specs.Trees.{IsBuiltAs}
use Rattle.eco_splice.proofs.LineLemmas.{built_line}
use Rattle.eco_splice.proofs.checking.is_line.Goals as goal

pub returns-clause-line : goal.returns-clause-line
returns-clause-line c =
    let nodes = c.args.aig.now in
    let line = c.args.line.now in
    let operands = c.as_slice.result.now in
    let before = c.if-line-nodes.false in
    let count = c.nodes.ensures.count in
    IfOk-weaker c.is_built.result (λ is. IsTrue is ↔ IsBuiltAs nodes line.kind line.edge operands) (λ is. IsTrue is → IsLine nodes line)
    (λ is exactly yes. built_line nodes line (record { within = omega (arith, before, count); structure = subst (IsBuiltAs nodes line.kind line.edge) c.as_slice.ensures.value (exactly.0 yes) })) c.is_built.ensures
