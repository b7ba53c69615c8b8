-- The chain of a learnt node names earlier nodes.
use Rattle.std.proofs.Common.{List, ◌<◌, length, All, subst, arith}
use Rattle.eco_trace.specs.declared.node.NodeId.{NodeId}
use Rattle.eco_trace.specs.declared.node.Link.{Link}
use Rattle.eco_trace.specs.Resolution.{clauses_of}
use Rattle.eco_trace.proofs.NodeLaws.{learnt_at, chain_ids}
use Rattle.eco_trace.proofs.CoreLaws.{iff_or, uses_by}
use Rattle.eco_trace.proofs.reach.mark_chain.Goals as goal

pub mark_named-requires-clause-start : goal.mark_named-requires-clause-start
mark_named-requires-clause-start c =
    let p = c.args.trace.now in
    let n = learnt_at p _ c.in-Some.start c.in-Some.links.now c.in-Some.ensures.chain.1 in
    let ids = chain_ids p _ n.0 c.requires.legal n.1 in
    let within : c.in-Some.start.0 < length (clauses_of p) = subst (λ (id : NodeId). id.0 < length (clauses_of p)) n.2 ids.0 in
    let count = c.requires.length in
    omega (arith, within, count)

pub mark_named-requires-clause-links : goal.mark_named-requires-clause-links
mark_named-requires-clause-links c =
    let p = c.args.trace.now in
    let n = learnt_at p _ c.in-Some.start c.in-Some.links.now c.in-Some.ensures.chain.1 in
    let ids = chain_ids p _ n.0 c.requires.legal n.1 in
    let all : All (λ (link : Link). link.with.0 < length (clauses_of p)) c.in-Some.links.now =
    subst (λ (ls : List Link). All (λ (link : Link). link.with.0 < length (clauses_of p)) ls) n.3 ids.1
    in
    let count = c.requires.length in
    λ k d lt. let within = all k d lt in omega (arith, within, count)

pub returns-clause-marked : goal.returns-clause-marked
returns-clause-marked c = λ k.
    let p = c.args.trace.now in
    let n = learnt_at p _ c.in-Some.start c.in-Some.links.now c.in-Some.ensures.chain.1 in
    iff_or (c.mark_named.ensures.marked k) (uses_by p c.args.node.0 k c.in-Some.start c.in-Some.links.now c.requires.learnt n.0 n.1 n.2 n.3)
