-- One more net, by its bit, and at the end all of them.
use Rattle.std.proofs.Common.{◌≡◌, ◌<◌, ◌+◌, ℕ, Bool, true, false, not, ◌++◌, length, drop, sym, ◌∙◌, ap, subst, arith}
use Rattle.eco_gates.specs.declared.gate.NetId.{NetId}
use Rattle.eco_gates.specs.Words.{is_set}
use Rattle.eco_lanes.specs.declared.sifting.Sifted.{Sifted}
use Rattle.eco_lanes.specs.Mended.{chosen}
use Rattle.eco_lanes.proofs.SiftLemmas.{part_more, part_same, part_ends}
use Rattle.eco_lanes.proofs.sifting.part.Goals.{then-is_one+in_ok-push, else-is_one+in_ok-push-2}
use Rattle.eco_lanes.proofs.sifting.part.Goals as goal

pub loop-place-preserved : goal.loop-place-preserved
loop-place-preserved c =
    let (left, taken) = c.loop-place.invariant in
    let word = c.args.word in
    let batch = c.args.batch.now in
    let k = c.loop-place.place in
    let none : NetId = record { 0 = 0 } in
    let inside : k < length batch = omega arith in
    let others : ℕ → Bool = λ place. not (is_set word place) in
    elim c.if-is_one.branch [
      | then-is_one+in_ok-push w ↦
          let bit : is_set word k ≡ true = sym c.is_one.ensures ∙ w.if-is_one.true in (
            subst (λ (sifted : Sifted). sifted.left.items ++ chosen (is_set word) (k + 1) (drop (k + 1) batch) ≡ c.args.sifted.now.left.items ++ chosen (is_set word) 0 batch) (sym w.sifted-is)
                (ap (λ list. list ++ chosen (is_set word) (k + 1) (drop (k + 1) batch)) w.in_ok-push.ensures.items ∙ part_more (is_set word) batch k none c.loop-place.sifted.left.items _ inside bit left),
            subst (λ (sifted : Sifted). sifted.taken.items ++ chosen others (k + 1) (drop (k + 1) batch) ≡ c.args.sifted.now.taken.items ++ chosen others 0 batch) (sym w.sifted-is)
                (part_same others batch k c.loop-place.sifted.taken.items _ inside (ap not bit) taken),
          )
      | else-is_one+in_ok-push-2 w ↦
          let bit : is_set word k ≡ false = sym c.is_one.ensures ∙ w.if-is_one.false in (
            subst (λ (sifted : Sifted). sifted.left.items ++ chosen (is_set word) (k + 1) (drop (k + 1) batch) ≡ c.args.sifted.now.left.items ++ chosen (is_set word) 0 batch) (sym w.sifted-is)
                (part_same (is_set word) batch k c.loop-place.sifted.left.items _ inside bit left),
            subst (λ (sifted : Sifted). sifted.taken.items ++ chosen others (k + 1) (drop (k + 1) batch) ≡ c.args.sifted.now.taken.items ++ chosen others 0 batch) (sym w.sifted-is)
                (ap (λ list. list ++ chosen others (k + 1) (drop (k + 1) batch)) w.in_ok-push-2.ensures.items ∙ part_more others batch k none c.loop-place.sifted.taken.items _ inside (ap not bit) taken),
          )
    ]

pub returns-clause-left : goal.returns-clause-left
returns-clause-left c =
    part_ends (is_set c.args.word) c.args.batch.now c.loop-place.place c.loop-place.sifted.left.items _ (omega arith) c.loop-place.invariant.0

pub returns-clause-taken : goal.returns-clause-taken
returns-clause-taken c =
    part_ends (λ place. not (is_set c.args.word place)) c.args.batch.now c.loop-place.place c.loop-place.sifted.taken.items _ (omega arith) c.loop-place.invariant.1
