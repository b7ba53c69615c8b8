use Rattle.std.proofs.Common.{◌≡◌, ◌+◌, ◌-◌, ℕ, false, length, sym, subst, arith}
use Rattle.std.specs.Prelude.{replicate}
use Rattle.eco_aig.specs.Marking.{with_marks}
use Rattle.eco_aig.proofs.MarkLemmas.{AreMarkedFrom, marked_roots, marked_before, all_marked}
use Rattle.eco_aig.proofs.reach.reached.Goals as goal

pub loop-node-init : goal.loop-node-init
loop-node-init c =
    let nodes = c.args.aig.now in
    let count : length nodes ≡ c.nodes-nodes.result = sym c.nodes-nodes.ensures.count in
    rw (c.in_ok-marks.ensures)
    (subst (λ (n : ℕ). AreMarkedFrom nodes c.args.roots.now n (with_marks (replicate n false) c.args.roots.now)) count (marked_roots nodes c.args.roots.now c.requires))

pub loop-node-preserved : goal.loop-node-preserved
loop-node-preserved c =
    let nodes = c.args.aig.now in
    let k = c.loop-node.node - 1 in
    let test = c.loop-node-test.true in
    let marks = c.loop-node.marks.items in
    let later : c.loop-node.node ≡ k + 1 = omega (arith, test) in
    let before = subst (λ (n : ℕ). AreMarkedFrom nodes c.args.roots.now n marks) later c.loop-node.invariant in
    rw (c.mark_operands.ensures) (marked_before nodes c.args.roots.now k marks c.nodes-nodes.ensures.graph before)

pub returns : goal.returns
returns c =
    let end = c.loop-node-test.false in
    let none : c.loop-node.node ≡ 0 = omega (arith, end) in
    all_marked c.args.aig.now c.args.roots.now c.loop-node.marks.items
    (subst (λ (n : ℕ). AreMarkedFrom c.args.aig.now c.args.roots.now n c.loop-node.marks.items) none c.loop-node.invariant)
