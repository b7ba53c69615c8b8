-- One more input.
use Rattle.std.proofs.Common.{◌≡◌, false, Some, None, length, get_or, replicate, ◌∙◌, ap, length-set, rules}
use Rattle.std.proofs.lemmas.List.{length-replicate}
use Rattle.eco_meaning.specs.Circuit.{names}
use Rattle.eco_gates.specs.declared.gate.NetId.{NetId}
use Rattle.eco_trace.specs.declared.clause.Lit.{Lit}
use Rattle.eco_equality.proofs.Naming.{given_none, given_step}
use Rattle.eco_equality.proofs.numbering.given_literals.Goals as goal

pub loop-place-init : goal.loop-place-init
loop-place-init c =
    let all = names c.args.netlist.now in
    let none : c.in_ok-given.given.items ≡ replicate (length all) None = c.in_ok-given.ensures.items_if_clones_equal (λ y is. search rules) ∙ ap (λ n. replicate n None) c.nets.ensures.count in
    record {
      len = ap length none ∙ length-replicate (length all) None;
      marks = λ shared literals. none ∙ given_none shared all;
    }

pub loop-place-preserved : goal.loop-place-preserved
loop-place-preserved c =
    let all = names c.args.netlist.now in
    let nets = c.inputs-net-items.result.now in
    let k = c.loop-place.place in
    let none : NetId = record { 0 = 0 } in
    let l : Lit = record { var = record { 0 = 0 }; positive = false } in
    let given = c.loop-place.given.items in
    record {
      len = length-set given (get_or nets k none).0 (Some (get_or c.args.inputs.now k l)) ∙ c.loop-place.invariant.len;
      marks = λ shared literals.
          given_step all c.args.netlist.now.inputs nets c.args.inputs.now shared k none l given c.nets.ensures.checked.distinct c.inputs-net-items.ensures.named c.inputs-net-items.ensures.within c.loop-place-test.true literals (c.loop-place.invariant.marks shared literals);
    }
