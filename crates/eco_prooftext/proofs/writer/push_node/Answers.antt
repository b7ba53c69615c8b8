use Rattle.std.proofs.Common.{List, ◌<◌, length, All, subst, arith}
use Rattle.eco_trace.specs.declared.node.NodeId.{NodeId}
use Rattle.eco_trace.specs.declared.node.Link.{Link}
use Rattle.eco_trace.specs.Resolution.{clauses_of}
use Rattle.eco_trace.proofs.NodeLaws.{learnt_at, chain_ids}
use Rattle.eco_prooftext.proofs.writer.push_node.Goals as goal

pub push_learnt-requires-clause-start : goal.push_learnt-requires-clause-start
push_learnt-requires-clause-start c =
    let p = c.args.trace.now in
    let n = learnt_at p _ c.in-Some.start c.in-Some.links.now c.in-Some.ensures.chain.1 in
    let ids = chain_ids p _ n.0 c.is_sound.ensures.legal n.1 in
    let within : c.in-Some.start.0 < length (clauses_of p) = subst (λ (id : NodeId). id.0 < length (clauses_of p)) n.2 ids.0 in
    omega arith

pub push_learnt-requires-clause-links : goal.push_learnt-requires-clause-links
push_learnt-requires-clause-links c =
    let p = c.args.trace.now in
    let n = learnt_at p _ c.in-Some.start c.in-Some.links.now c.in-Some.ensures.chain.1 in
    let ids = chain_ids p _ n.0 c.is_sound.ensures.legal n.1 in
    let all : All (λ (link : Link). link.with.0 < length (clauses_of p)) c.in-Some.links.now =
    subst (λ (ls : List Link). All (λ (link : Link). link.with.0 < length (clauses_of p)) ls) n.3 ids.1
    in
    λ k d lt. let within = all k d lt in omega (arith, within)
