-- The chain's first node, one more, and all of them.
use Rattle.std.proofs.Common.{true, get_or, ◌∙◌, arith, length-set}
use Rattle.eco_trace.specs.declared.node.Link.{Link}
use Rattle.eco_trace.proofs.CoreLaws.{named_start, named_more, named_all}
use Rattle.eco_trace.proofs.reach.mark_named.Goals as goal

pub loop-link-init : goal.loop-link-init
loop-link-init c = record {
  count = length-set c.args.marks.now.items c.args.start.0 true;
  marked = named_start c.args.start c.args.links.now c.args.marks.now.items c.requires.start;
}

pub loop-link-preserved : goal.loop-link-preserved
loop-link-preserved c =
    let i = c.loop-link.link-index in
    let d : Link = record { pivot = record { 0 = 0 }; with = record { 0 = 0 } } in
    let marks = c.loop-link.marks.items in
    let named = c.requires.links i d c.loop-link-test.true in
    let count = c.loop-link.invariant.count in
    record {
      count = length-set marks ((get_or c.args.links.now i d).with).0 true ∙ count;
      marked = named_more c.args.start c.args.links.now i d c.args.marks.now.items marks c.loop-link-test.true (omega (arith, named, count)) c.loop-link.invariant.marked;
    }

pub returns-clause-marked : goal.returns-clause-marked
returns-clause-marked c =
    named_all c.args.start c.args.links.now c.loop-link.link-index c.args.marks.now.items c.loop-link.marks.items c.loop-link-test.false c.loop-link.invariant.marked
