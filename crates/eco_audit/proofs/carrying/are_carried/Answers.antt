-- The carriers carry part after part, until one is too much.
use Rattle.std.proofs.Common.{[], ◌∷◌, ◌++◌, List, take, drop, suc, refl, sym, ◌∙◌, ap, subst}
use Rattle.std.proofs.Math.Seq.{split_at}
use Rattle.std.proofs.lemmas.Bool.{false≢true}
use Rattle.std.proofs.lemmas.List.{append_assoc, take_all, take_more}
use Rattle.eco_meaning.specs.Bound.{Part}
use Rattle.eco_audit.specs.Carriers.{AreCarriers, TakesOn}
use Rattle.eco_audit.proofs.Carriers.{all_carried, overloaded}
use Rattle.eco_audit.proofs.carrying.are_carried.Goals as goal

pub returns-then-not-taken : goal.returns-then-not-taken
returns-then-not-taken c =
    let s = c.args.solution.now in
    let parts = c.args.parts.now in
    let i = c.loop-part.part-index in
    let part = c.part-item.result in
    let cut = split_at parts i part c.loop-part-test.true ∙ ap (λ (x : Part). take i parts ++ x ∷ drop (suc i) parts) (sym c.part-item.is)
    ∙ sym (append_assoc (take i parts) (part ∷ []) (drop (suc i) parts)) in
    let over = subst (TakesOn s part c.loop-part.carriers.items c.take_on.new.carriers.items) c.if-not-taken.true c.in_ok-taken.ensures in
    (λ holds. absurd (false≢true holds), λ carried. absurd (overloaded s (take i parts ++ part ∷ []) (drop (suc i) parts) parts c.requires.judged c.requires.inputs cut (over (take i parts) c.loop-part.invariant) carried))

pub loop-part-preserved : goal.loop-part-preserved
loop-part-preserved c =
    let s = c.args.solution.now in
    let parts = c.args.parts.now in
    let i = c.loop-part.part-index in
    let part = c.part-item.result in
    let more = subst (TakesOn s part c.loop-part.carriers.items c.take_on.new.carriers.items) c.if-not-taken.false c.in_ok-taken.ensures in
    subst (λ (l : List Part). AreCarriers s l c.take_on.new.carriers.items) (ap (λ (x : Part). take i parts ++ x ∷ []) c.part-item.is ∙ sym (take_more parts i part c.loop-part-test.true))
    (more (take i parts) c.loop-part.invariant)

pub returns : goal.returns
returns c =
    let s = c.args.solution.now in
    let parts = c.args.parts.now in
    let carried = subst (λ (l : List Part). AreCarriers s l c.loop-part.carriers.items) (take_all c.loop-part.part-index parts c.loop-part-test.false) c.loop-part.invariant in
    (λ holds. all_carried s parts c.loop-part.carriers.items carried, λ all. refl)
