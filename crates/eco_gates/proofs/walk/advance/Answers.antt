-- The step goes by the gate that was last on the stack.
use Rattle.std.proofs.Common.{◌≡◌, ◌∙◌, [], refl, arith}
use Rattle.std.proofs.lemmas.List.{append-nil, nil_from_length}
use Rattle.std.proofs.lemmas.Result.{IfOk-weaker}
use Rattle.eco_gates.specs.declared.walk.Walk.{Walk}
use Rattle.eco_gates.specs.Step.{Advances, HasLeft, HasEntered}
use Rattle.eco_gates.proofs.Walking.{last_within, wait_within, left_advances, entered_advances, stays}
use Rattle.eco_gates.proofs.walk.advance.Goals as goal

pub returns-in-None : goal.returns-in-None
returns-in-None c =
    let old : Walk = c.args.walk.now in
    let new : Walk = record { marks = old.marks; order = old.order; stack = c.pop.new.self } in
    let no_more : new.stack.items ≡ [] = nil_from_length new.stack.items (omega (arith, c.pop.new.self.ok.0, c.in-None.ensures.cases.1)) in
    record { advances = stays c.args.gates.now c.args.drivers.now old new c.requires.stands (c.in-None.ensures.items ∙ append-nil new.stack.items ∙ no_more) refl refl no_more }

pub look-requires-clause-gate : goal.look-requires-clause-gate
look-requires-clause-gate c =
    last_within c.args.gates.now c.args.drivers.now c.args.walk.now c.pop.new.self.items c.in-Some.frame c.requires.stands c.in-Some.ensures.items

pub leave-requires : goal.leave-requires
leave-requires c =
    let within = last_within c.args.gates.now c.args.drivers.now c.args.walk.now c.pop.new.self.items c.in-Some.frame c.requires.stands c.in-Some.ensures.items in
    omega (arith, within, c.requires.stands.len)

pub enter-requires : goal.enter-requires
enter-requires c =
    let at = rw c.as_slice.ensures.value at c.in-Some-look.ensures.waits in
    wait_within _ c.args.gates.now c.args.drivers.now c.args.walk.now.marks.items c.in-Some.frame c.in-Some-look.wait c.requires.drivers c.requires.stands.len at

pub returns-in-None-look : goal.returns-in-None-look
returns-in-None-look c =
    let old : Walk = c.args.walk.now in
    let mid : Walk = record { marks = old.marks; order = old.order; stack = c.pop.new.self } in
    let none = rw c.as_slice.ensures.value at c.in-None-look.ensures.none in
    record {
      advances = IfOk-weaker c.leave.result (HasLeft mid c.leave.new.walk c.in-Some.frame.gate) (Advances c.args.gates.now c.args.drivers.now old c.leave.new.walk)
          (λ s left. left_advances _ c.args.gates.now c.args.drivers.now old mid c.leave.new.walk c.in-Some.frame s c.requires.drivers c.requires.stands c.in-Some.ensures.items refl refl none left) c.leave.ensures.left;
    }

pub returns-in-Some-look : goal.returns-in-Some-look
returns-in-Some-look c =
    let old : Walk = c.args.walk.now in
    let mid : Walk = record { marks = old.marks; order = old.order; stack = c.pop.new.self } in
    let at = rw c.as_slice.ensures.value at c.in-Some-look.ensures.waits in
    record {
      advances = IfOk-weaker c.enter.result (HasEntered mid c.enter.new.walk c.in-Some.frame.gate c.in-Some-look.wait) (Advances c.args.gates.now c.args.drivers.now old c.enter.new.walk)
          (λ s entered. entered_advances _ c.args.gates.now c.args.drivers.now old mid c.enter.new.walk c.in-Some.frame c.in-Some-look.wait s c.requires.drivers c.requires.stands c.in-Some.ensures.items refl refl at entered) c.enter.ensures.entered;
    }
