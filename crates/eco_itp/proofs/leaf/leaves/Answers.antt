-- One more clause, and at most so many nodes.
use Rattle.std.proofs.Common.{◌≡◌, ◌<◌, ◌+◌, ℕ, suc, length, take, sym, ◌∙◌, ap, subst, arith}
use Rattle.std.specs.List.{slice_get}
use Rattle.std.proofs.lemmas.List.{length_push}
use Rattle.eco_aig.specs.Graph.{Grows}
use Rattle.eco_aig.proofs.Growing.{grows_join, grows_more}
use Rattle.eco_itp.specs.Parts.{split_of}
use Rattle.eco_itp.specs.Partial.{ArePartial}
use Rattle.eco_itp.specs.Bound.{literals_of_a, leaf_size}
use Rattle.eco_itp.proofs.Counting.{literals_more, literals_front}
use Rattle.eco_itp.proofs.Chaining.{partial_push}
use Rattle.eco_itp.proofs.leaf.leaves.Goals as goal

pub returns-in_err-edge-clause-grows : goal.returns-in_err-edge-clause-grows
returns-in_err-edge-clause-grows c =
    let p = c.args.parts.now in
    let k = c.loop-number.number in
    let within : k < length p.trace.now.originals = omega (arith, c.loop-number-test.true, c.requires.parts.marked) in
    let more = literals_more p.trace.now.originals p.side.now k within c.loop-number-test.true in
    let front = literals_front p.trace.now.originals p.side.now (suc k) in
    grows_more c.args.aig.now c.leaf.new.aig _ _ (omega (arith, more, front)) (grows_join c.args.aig.now c.loop-number.aig c.leaf.new.aig _ _ c.loop-number.invariant.grows c.leaf.ensures.grows)

pub returns-in_err-push-clause-grows : goal.returns-in_err-push-clause-grows
returns-in_err-push-clause-grows c =
    let p = c.args.parts.now in
    let k = c.loop-number.number in
    let within : k < length p.trace.now.originals = omega (arith, c.loop-number-test.true, c.requires.parts.marked) in
    let more = literals_more p.trace.now.originals p.side.now k within c.loop-number-test.true in
    let front = literals_front p.trace.now.originals p.side.now (suc k) in
    grows_more c.args.aig.now c.leaf.new.aig _ _ (omega (arith, more, front)) (grows_join c.args.aig.now c.loop-number.aig c.leaf.new.aig _ _ c.loop-number.invariant.grows c.leaf.ensures.grows)

pub loop-number-preserved : goal.loop-number-preserved
loop-number-preserved c =
    let p = c.args.parts.now in
    let k = c.loop-number.number in
    let old = c.loop-number.edges.items in
    let invariant = c.loop-number.invariant in
    let pushed = c.in_ok-push.ensures.items in
    let within : k < length p.trace.now.originals = omega (arith, c.loop-number-test.true, c.requires.parts.marked) in
    let more = literals_more p.trace.now.originals p.side.now k within c.loop-number-test.true in
    let count : suc k ≡ k + 1 = omega arith in
    let after : literals_of_a (take k p.trace.now.originals) (take k p.side.now) + leaf_size (split_of p) k ≡ literals_of_a (take (k + 1) p.trace.now.originals) (take (k + 1) p.side.now) =
    sym more ∙ ap (λ (n : ℕ). literals_of_a (take n p.trace.now.originals) (take n p.side.now)) count
    in
    record {
      count = ap length pushed ∙ length_push old c.in_ok-edge.edge ∙ ap (λ (n : ℕ). n + 1) invariant.count;
      partial = subst (ArePartial p c.leaf.new.aig p.trace.now.originals) (sym pushed) (partial_push p c.loop-number.aig c.leaf.new.aig _ p.trace.now.originals old c.in_ok-edge.edge c.leaf.ensures.grows (λ clause at. c.in_ok-edge.ensures.partial clause (ap (slice_get p.trace.now.originals) (sym invariant.count) ∙ at)) invariant.partial);
      grows = subst (Grows c.args.aig.now c.leaf.new.aig) after (grows_join c.args.aig.now c.loop-number.aig c.leaf.new.aig _ _ invariant.grows c.leaf.ensures.grows);
    }
