-- One step of a walk.
use Rattle.std.proofs.Common.{not, sym, ap, ◌∙◌, arith}
use mathlib.Core.Bool.{beq}
use Rattle.std.specs.Prelude.{reverse}
use Rattle.std.proofs.lemmas.Bool.{true≢false}
use Rattle.eco_lists.specs.Bits.{exactly_one}
use Rattle.eco_splice.proofs.BitLemmas.{differ_one}
use Rattle.eco_splice.proofs.WalkLemmas.{covers_none, covers_many, covers_stuck, goes_past, goes_down}
use Rattle.eco_splice.proofs.walking.step.Goals as goal
use Rattle.eco_splice.proofs.walking.step.Goals.{in_default-below-via-in-Some-below+else-len-left, in_default-below-via-in_default-below}

pub returns-in_default : goal.returns-in_default
returns-in_default c = covers_none c.args.aig.now c.args.join c.args.edge (reverse c.args.stack.now.items) c.args.left.operands.now c.args.left.turned c.in_default.ensures.cases

pub returns-then-meets : goal.returns-then-meets
returns-then-meets c =
    let edge = c.args.edge in
    let operand = c.in-Some.operand.now in
    goes_past c.args.aig.now c.args.join edge operand c.args.stack.now.items c.args.left.operands.now c.in-Some.later.now c.args.left.turned _ c.requires.graph c.in-Some.ensures.cases.0 (c.meets.ensures.0 c.if-meets.true)
    (differ_one c.args.left.turned (not (beq edge.complemented operand.complemented)) ∙ ap (exactly_one c.args.left.turned) (differ_one edge.complemented operand.complemented))

pub returns-in_ok-push-in-Some-below-2 : goal.returns-in_ok-push-in-Some-below-2
returns-in_ok-push-in-Some-below-2 c =
    let first = c.in-Some-below.first in
    let second = c.in-Some-below.second in
    let enough = c.if-len-left.true in
    goes_down c.args.aig.now c.args.join c.args.edge first second c.in-Some.operand.now c.args.stack.now.items c.push.new.self.items c.push-in-Some-below.new.self.items c.args.left.operands.now c.in-Some.later.now c.args.left.turned _ c.in-Some.ensures.cases.0
    (λ meets. true≢false (sym (c.meets.ensures.1 meets) ∙ c.if-meets.false)) ((c.below.ensures first second).0 c.in-Some-below.is)
    c.in_ok-push-in-Some-below.ensures.items c.in_ok-push-in-Some-below-2.ensures.items (omega (arith, enough)) (differ_one c.args.left.turned c.args.edge.complemented)

pub returns-in_default-below : goal.returns-in_default-below
returns-in_default-below c = elim c.in_default-below.branch [
  | in_default-below-via-in-Some-below+else-len-left w ↦
      let first = w.in-Some-below.first in
      let second = w.in-Some-below.second in
      covers_many c.args.aig.now c.args.join c.args.edge first second c.in-Some.operand.now c.args.stack.now.items c.args.left.operands.now c.in-Some.later.now c.args.left.turned c.in-Some.ensures.cases.0
      (λ meets. true≢false (sym (c.meets.ensures.1 meets) ∙ c.if-meets.false)) ((c.below.ensures first second).0 w.in-Some-below.is)
      (λ enough. let more = w.if-len-left.false in absurd (omega (arith, enough, more)))
  | in_default-below-via-in_default-below w ↦
      covers_stuck c.args.aig.now c.args.join c.args.edge c.in-Some.operand.now (reverse c.args.stack.now.items) c.args.left.operands.now c.in-Some.later.now c.args.left.turned c.in-Some.ensures.cases.0
      (λ meets. true≢false (sym (c.meets.ensures.1 meets) ∙ c.if-meets.false)) (λ a b joins. w.in_default-below.not-Some (a, b) ((c.below.ensures a b).1 joins))
]
