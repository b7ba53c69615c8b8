-- No pair at first, one more where the input has a variable, and at the end all of them.
use Rattle.std.proofs.Common.{◌≤◌, length, get_or, subst}
use Rattle.std.specs.List.{Contains}
use Rattle.std.specs.Option.{SomeIff}
use Rattle.eco_tseitin.specs.Encoding.{variable_of}
use Rattle.eco_aig.specs.Graph.{inputs_of}
use Rattle.eco_accept.proofs.Questions.{input_paired, input_alone, pairs_all}
use Rattle.eco_accept.proofs.posing.pairs_of.Goals as goal
use Rattle.eco_accept.proofs.posing.pairs_of.Goals.{in-Some+in_ok-push, in_default}

pub loop-place-preserved : goal.loop-place-preserved
loop-place-preserved c =
    let inputs = inputs_of c.args.aig.now in
    let listed = c.inputs-inputs.result.now in
    let shared = c.args.shared.now in
    let named = c.args.encoder.now.nodes in
    let n = c.loop-place.place in
    elim c.match-var_of.branch [
      | in-Some+in_ok-push w ↦
          let is = subst (λ o. SomeIff o (Contains named (get_or listed n 0)) (variable_of named (get_or listed n 0))) w.in-Some.is c.var_of.ensures.variable in
          rw w.pairs-is (input_paired inputs listed shared named c.loop-place.pairs.items w.push.new.self.items n (record { 0 = 0 }) w.in-Some.own c.inputs-inputs.ensures c.loop-place-test.true c.requires is w.in_ok-push.ensures.items c.loop-place.invariant)
      | in_default w ↦
          rw w.pairs-is (input_alone inputs listed shared named c.loop-place.pairs.items n c.inputs-inputs.ensures c.loop-place-test.true (subst (λ o. SomeIff o (Contains named (get_or listed n 0)) (variable_of named (get_or listed n 0))) w.in_default.is c.var_of.ensures.variable) c.loop-place.invariant)
    ]

pub returns : goal.returns
returns c =
    pairs_all (inputs_of c.args.aig.now) c.args.shared.now c.args.encoder.now.nodes c.loop-place.pairs.items c.loop-place.place (subst (λ list. length list ≤ c.loop-place.place) c.inputs-inputs.ensures c.loop-place-test.false) c.loop-place.invariant
