-- An edge to the twin has the node's value; one more node was compared, and all of them.
use Rattle.std.proofs.Common.{Bool, Option, get_or, subst}
use Rattle.std.specs.List.{All}
use Rattle.std.specs.Option.{IfSome, IfNone}
use Rattle.std.proofs.lemmas.List.{take_all}
use Rattle.std.proofs.lemmas.Option.{slice_get-get_or}
use Rattle.eco_merge.specs.Alike.{IsAlike, other_of}
use Rattle.eco_merge.specs.Steps.{IsComparedWith}
use Rattle.eco_merge.proofs.Alike.{alike_value}
use Rattle.eco_merge.proofs.Listing.{more_join, compared_next}
use Rattle.eco_merge.proofs.findings.Findings.twin.Goals as goal

pub returns-in-Some-clause-some : goal.returns-in-Some-clause-some
returns-in-Some-clause-some g c =
    let graph = c.args.aig.now in
    let i = c.loop-other.other-index in
    let m = get_or c.args.kept.now i 0 in
    let alike = subst (λ (o : Option Bool). IfSome o (IsAlike graph c.args.node (other_of m))) c.in-Some.is c.in_ok-same.ensures.some in
    alike_value graph c.args.node m c.in-Some.same c.nodes.ensures.graph (c.requires.kept i 0 c.loop-other-test.true) alike

pub loop-other-preserved : goal.loop-other-preserved
loop-other-preserved g c =
    let graph = c.args.aig.now in
    let i = c.loop-other.other-index in
    let m = get_or c.args.kept.now i 0 in
    let old = c.loop-other.self.apart.items in
    let new = c.sign.new.self.apart.items in
    let more = c.in_ok-same.ensures.more in
    let here = subst (λ (o : Option Bool). IfNone o (IsComparedWith graph new c.args.node m)) c.in_default.is c.in_ok-same.ensures.none in
    record {
      findings = c.in_ok-same.ensures.findings;
      more = more_join c.args.self.now.apart.items old new c.loop-other.invariant.more more;
      compared = compared_next graph old new c.args.node c.args.kept.now i m (slice_get-get_or c.args.kept.now i 0 c.loop-other-test.true) more c.loop-other.invariant.compared here;
    }

pub returns-clause-none : goal.returns-clause-none
returns-clause-none g c =
    subst (All (IsComparedWith c.args.aig.now c.loop-other.self.apart.items c.args.node)) (take_all c.loop-other.other-index c.args.kept.now c.loop-other-test.false) c.loop-other.invariant.compared
