use Rattle.std.proofs.Common.{◌≡◌, [], map, length, reverse, ap, arith, rules}
use Rattle.std.proofs.lemmas.List.{length-reverse}
use Rattle.eco_vread.specs.Postfix.{sign_of}
use Rattle.eco_vread.specs.Declaring.{Work, driven_by, work_of}
use Rattle.eco_vread.proofs.Works.{made_of_signs, signs_count, at_symbol, behind_symbol, behind_all, the_operand}
use Rattle.eco_vread.proofs.operators.add_expression.Goals as goal

pub loop-symbol-init : goal.loop-symbol-init
loop-symbol-init c =
    rw c.new.ensures.items (made_of_signs (driven_by c.args.nets) (map sign_of c.args.value.now) (record { declared = c.args.draft.now; operands = []; count = c.args.before }) c.requires.formed)

pub add_symbol-requires-clause-some : goal.add_symbol-requires-clause-some
add_symbol-requires-clause-some c =
    let step = at_symbol (driven_by c.args.nets) c.args.value.now c.loop-symbol.symbol-index c.symbol-item.result (work_of c.loop-symbol.draft c.loop-symbol.pending) _ c.loop-symbol-test.true c.symbol-item.is c.loop-symbol.invariant in
    rw step.1 (search rules)

pub add_symbol-requires-clause-few : goal.add_symbol-requires-clause-few
add_symbol-requires-clause-few c =
    let few = signs_count (driven_by c.args.nets) _ (work_of c.loop-symbol.draft c.loop-symbol.pending) _ c.loop-symbol.invariant in
    omega (arith, few)

pub loop-symbol-preserved : goal.loop-symbol-preserved
loop-symbol-preserved c =
    behind_symbol (driven_by c.args.nets) c.args.value.now c.loop-symbol.symbol-index c.symbol-item.result (work_of c.loop-symbol.draft c.loop-symbol.pending) _ (work_of c.add_symbol.new.draft c.add_symbol.new.pending) c.loop-symbol-test.true c.symbol-item.is c.loop-symbol.invariant c.in_ok-add_symbol.ensures

pub unreachable-requires : goal.unreachable-requires
unreachable-requires c =
    let whole = behind_all (driven_by c.args.nets) c.args.value.now c.loop-symbol.symbol-index (work_of c.loop-symbol.draft c.loop-symbol.pending) _ c.loop-symbol-test.false c.loop-symbol.invariant in
    let one : length (reverse c.loop-symbol.pending.operands.items) ≡ 1 = ap (λ (w : Work). length w.operands) whole in
    omega (arith, one, length-reverse c.loop-symbol.pending.operands.items, c.in-None.ensures.cases.0, c.loop-symbol.pending.operands.ok.0)

pub returns-clause-gates : goal.returns-clause-gates
returns-clause-gates c =
    let whole = behind_all (driven_by c.args.nets) c.args.value.now c.loop-symbol.symbol-index (work_of c.loop-symbol.draft c.loop-symbol.pending) _ c.loop-symbol-test.false c.loop-symbol.invariant in
    ap (λ (w : Work). w.declared) whole

pub returns-clause-source : goal.returns-clause-source
returns-clause-source c =
    let whole = behind_all (driven_by c.args.nets) c.args.value.now c.loop-symbol.symbol-index (work_of c.loop-symbol.draft c.loop-symbol.pending) _ c.loop-symbol-test.false c.loop-symbol.invariant in
    the_operand c.loop-symbol.pending.operands.items _ c.in-Some.source _ c.in-Some.ensures.items (ap (λ (w : Work). w.operands) whole)
