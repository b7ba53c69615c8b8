-- One more link, and at the end all of them.
use Rattle.std.proofs.Common.{length, false, rules}
use Rattle.eco_aig.proofs.Growing.{grows_none, grows_join}
use Rattle.eco_itp.proofs.Chaining.{length-earlier, along_start, along_more, along_all, link_within, so_far_within, linked_edge_within}
use Rattle.eco_itp.proofs.chain.resolved_along.Goals as goal

pub loop-link-init : goal.loop-link-init
loop-link-init c =
    let len = length-earlier c.args.parts.now (length c.args.edges.now) c.requires.originals c.requires.learnt in
    record {
      along = along_start c.args.parts.now c.args.aig.now c.args.edges.now c.args.start c.args.links.now (record { node = 0; complemented = false }) len c.requires.partial;
      grows = grows_none c.args.aig.now 0;
    }

pub bounds-edges-link : goal.bounds-edges-link
bounds-edges-link c =
    let len = length-earlier c.args.parts.now (length c.args.edges.now) c.requires.originals c.requires.learnt in
    link_within c.args.parts.now c.loop-link.aig c.args.edges.now c.args.start c.args.links.now c.loop-link.link-index (record { pivot = record { 0 = 0 }; with = record { 0 = 0 } }) c.loop-link.edge c.loop-link-test.true len c.requires.legal c.loop-link.invariant.along

pub offset_bounds-edges-link : goal.offset_bounds-edges-link
offset_bounds-edges-link c =
    let len = length-earlier c.args.parts.now (length c.args.edges.now) c.requires.originals c.requires.learnt in
    let within = link_within c.args.parts.now c.loop-link.aig c.args.edges.now c.args.start c.args.links.now c.loop-link.link-index (record { pivot = record { 0 = 0 }; with = record { 0 = 0 } }) c.loop-link.edge c.loop-link-test.true len c.requires.legal c.loop-link.invariant.along in
    search (rules, within)

pub resolved-requires-clause-left : goal.resolved-requires-clause-left
resolved-requires-clause-left c =
    so_far_within c.args.parts.now c.loop-link.aig c.args.edges.now c.args.start c.args.links.now c.loop-link.link-index c.loop-link.edge c.requires.legal c.loop-link.invariant.along

pub resolved-requires-clause-right : goal.resolved-requires-clause-right
resolved-requires-clause-right c =
    let len = length-earlier c.args.parts.now (length c.args.edges.now) c.requires.originals c.requires.learnt in
    linked_edge_within c.args.parts.now c.args.aig.now c.loop-link.aig c.args.edges.now c.args.start c.args.links.now c.loop-link.link-index (record { pivot = record { 0 = 0 }; with = record { 0 = 0 } }) (record { node = 0; complemented = false }) c.loop-link.edge c.loop-link.link-index c.loop-link-test.true len c.loop-link.invariant.grows c.requires.partial c.requires.legal c.loop-link.invariant.along

pub loop-link-preserved : goal.loop-link-preserved
loop-link-preserved c =
    let len = length-earlier c.args.parts.now (length c.args.edges.now) c.requires.originals c.requires.learnt in
    record {
      along = along_more c.args.parts.now c.args.aig.now c.loop-link.aig c.resolved.new.aig c.args.edges.now c.args.start c.args.links.now c.loop-link.link-index (record { pivot = record { 0 = 0 }; with = record { 0 = 0 } }) (record { node = 0; complemented = false }) c.loop-link.edge c.in_ok-edge.edge c.loop-link.link-index c.loop-link-test.true len c.loop-link.invariant.grows c.resolved.ensures.grows c.requires.partial c.in_ok-edge.ensures.value c.loop-link.invariant.along;
      grows = grows_join c.args.aig.now c.loop-link.aig c.resolved.new.aig c.loop-link.link-index 1 c.loop-link.invariant.grows c.resolved.ensures.grows;
    }

pub returns-clause-partial : goal.returns-clause-partial
returns-clause-partial c =
    along_all c.args.parts.now c.loop-link.aig c.args.edges.now c.args.start c.args.links.now c.loop-link.link-index c.loop-link.edge c.loop-link-test.false c.loop-link.invariant.along
