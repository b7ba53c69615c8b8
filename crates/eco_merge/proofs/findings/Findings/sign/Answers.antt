-- Told apart by their signatures, or compared with both signs.
use Rattle.std.proofs.Common.{ℕ, Bool, Option, subst}
use Rattle.eco_merge.specs.Questions.{IsCompared}
use Rattle.eco_merge.proofs.Listing.{both_signs}
use Rattle.eco_merge.proofs.Signing.{signatures_differ}
use Rattle.eco_merge.proofs.findings.Findings.sign.Goals as goal

pub returns-then-differ-clause-none : goal.returns-then-differ-clause-none
returns-then-differ-clause-none g c =
    signatures_differ c.args.aig.now c.args.limit c.args.self.now c.args.node c.args.other c.nodes.ensures.graph c.requires.findings c.requires.node c.requires.other (c.differ.ensures c.if-differ.true)

pub returns-clause-none : goal.returns-clause-none
returns-clause-none g c =
    let graph = c.args.aig.now in
    let one = c.is_true.new.self.apart.items in
    let two = c.is_true-2.new.self.apart.items in
    subst (λ (o : Option ℕ). (same : Bool) → IsCompared graph two c.args.node o same) c.other_of.ensures.other (both_signs graph one two c.args.node c.other_of.result c.in_ok-is_true-2.ensures.more (c.in_ok-is_true.ensures.unlike c.if-branch.false) (c.in_ok-is_true-2.ensures.unlike c.if-branch-2.false))
