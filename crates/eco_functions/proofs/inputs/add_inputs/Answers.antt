-- One more input and its signal.
use Rattle.std.proofs.Common.{◌≡◌, ◌+◌, List, ◌++◌, [], ◌∷◌, length, get_or, take, sym, ap, ◌∙◌, arith, append_assoc, length-append}
use Rattle.std.proofs.lemmas.List.{take_more}
use Rattle.eco_gates.specs.declared.gate.NetId.{NetId}
use Rattle.eco_aig.specs.declared.node.Node.{Node}
use Rattle.eco_aig.specs.declared.node.Node.TheVariants.{Input}
use Rattle.eco_functions.proofs.Adding.{input_more}
use Rattle.eco_functions.proofs.inputs.add_inputs.Goals as goal

pub loop-net-preserved : goal.loop-net-preserved
loop-net-preserved c =
    let base = c.args.base.now.items in
    let more = c.args.more.now in
    let i = c.loop-net.net-index in
    let none : NetId = record { 0 = 0 } in
    let pushed = (c.in_ok-input.ensures.ok).1 in
    let longer : length c.input.new.self ≡ length c.loop-net.aig + 1 =
    ap (λ (list : List Node). length list) pushed ∙ length-append c.loop-net.aig (Input (length c.loop-net.aig) ∷ []) in
    let count = c.loop-net.invariant.count in
    record {
      inputs = input_more c.args.aig.now c.loop-net.aig c.input.new.self i (length c.loop-net.aig) pushed c.loop-net.invariant.inputs;
      count = omega (arith, longer, count);
      base =
          c.in_ok-push.ensures.items
          ∙ ap (λ list. list ++ get_or more i none ∷ []) c.loop-net.invariant.base
          ∙ append_assoc base (take i more) (get_or more i none ∷ [])
          ∙ ap (λ list. base ++ list) (sym (take_more more i none c.loop-net-test.true));
    }
