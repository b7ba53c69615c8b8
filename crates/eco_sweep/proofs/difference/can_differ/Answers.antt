-- The copies never differ, so the node and the edge don't; or the search gave up on whether they do.
use Rattle.std.proofs.lemmas.Result.{IfOk-weaker}
use Rattle.eco_aig.specs.Edges.{plain}
use Rattle.eco_sweep.specs.Questions.{IsNever, AreEqual, IsQuestionSpent, IsComparisonSpent, IfNever, IfSpent}
use Rattle.eco_sweep.proofs.Differing.{mirrors_behind, copy_behind, equal_by_copies, if_never, if_spent}
use Rattle.eco_sweep.proofs.difference.can_differ.Goals as goal

pub returns-clause-never : goal.returns-clause-never
returns-clause-never g c = λ whole mirrors.
    let nodes = c.args.cone.now.nodes.items in
    let old = c.args.part.now.graph in
    let new = c.xor.new.self in
    let copies = c.args.part.now.copies.items in
    let a = plain c.args.node in
    let b = c.args.other in
    let x = c.in-Some.first in
    let y = c.in-Some-copy.second in
    let d = c.in_ok-difference.difference in
    let grows = c.in_ok-difference.ensures.grows in
    let mirrored = mirrors_behind whole nodes old new copies 3 c.nodes.ensures.graph c.nodes-2.ensures.graph grows mirrors in
    let first = copy_behind nodes old new copies 3 a x grows (c.in-Some.ensures whole mirrors) in
    let second = copy_behind nodes old new copies 3 b y grows (c.in-Some-copy.ensures whole mirrors) in
    IfOk-weaker c.can_be_one.result (λ answer. IfNever answer (IsNever new d)) (λ answer. IfNever answer (AreEqual whole a b)) (λ answer.
    if_never answer (equal_by_copies whole nodes new copies a b x y d mirrored first second c.in_ok-difference.ensures.value)) c.can_be_one.ensures.never

pub returns-clause-spent : goal.returns-clause-spent
returns-clause-spent g c = λ whole mirrors.
    let nodes = c.args.cone.now.nodes.items in
    let old = c.args.part.now.graph in
    let new = c.xor.new.self in
    let copies = c.args.part.now.copies.items in
    let a = plain c.args.node in
    let b = c.args.other in
    let d = c.in_ok-difference.difference in
    let grows = c.in_ok-difference.ensures.grows in
    IfOk-weaker c.can_be_one.result (λ answer. IfSpent answer (IsQuestionSpent new d c.args.limit)) (λ answer. IfSpent answer (IsComparisonSpent whole a b c.args.limit)) (λ answer.
    if_spent answer (λ question. record {
      nodes = nodes;
      part = new;
      copies = copies;
      mirrors = mirrors_behind whole nodes old new copies 3 c.nodes.ensures.graph c.nodes-2.ensures.graph grows mirrors;
      first = c.in-Some.first;
      first_copy = copy_behind nodes old new copies 3 a c.in-Some.first grows (c.in-Some.ensures whole mirrors);
      second = c.in-Some-copy.second;
      second_copy = copy_behind nodes old new copies 3 b c.in-Some-copy.second grows (c.in-Some-copy.ensures whole mirrors);
      difference = d;
      differs = c.in_ok-difference.ensures.value;
      question = question;
    })) c.can_be_one.ensures.spent
