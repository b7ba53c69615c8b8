-- One input more, and all of them.
use Rattle.std.proofs.Common.{◌≡◌, suc, ◌+◌, length, take, get_or, sym, ◌∙◌, ap, subst, arith}
use Rattle.std.proofs.lemmas.Option.{slice_get-get_or}
use Rattle.std.proofs.lemmas.List.{take_all}
use Rattle.eco_tuples.specs.Graphs.{AreInputsOf}
use Rattle.eco_tuples.proofs.SideLaws.{all_more}
use Rattle.eco_tuples.proofs.bounding.are_inputs.Goals as goal

pub loop-input-preserved : goal.loop-input-preserved
loop-input-preserved c =
    let f = c.args.problem.now.implementation in
    let tuple = c.args.tuple.now in
    let k = c.loop-input.input-index in
    let x = get_or tuple k c.input-item.result in
    let next : suc k ≡ k + 1 = omega arith in
    let long : length x ≡ length f.inputs = ap length (sym (c.as_slice.ensures ∙ c.input-item.is)) ∙ c.if-as_slice-count.false ∙ c.inputs_of-count.ensures in
    subst (λ m. AreInputsOf f (take m tuple)) next
    (all_more (λ y. length y ≡ length f.inputs) tuple k x c.loop-input.invariant (slice_get-get_or tuple k c.input-item.result (omega arith)) long)

pub returns : goal.returns
returns c _ = subst (AreInputsOf c.args.problem.now.implementation) (take_all c.loop-input.input-index c.args.tuple.now (omega arith)) c.loop-input.invariant
