-- One more learnt clause, and at most so many nodes.
use Rattle.std.proofs.Common.{◌≡◌, ◌≤◌, ◌+◌, ◌-◌, ℕ, List, length, take, sym, ◌∙◌, ap, subst, arith}
use Rattle.std.specs.List.{slice_get}
use Rattle.std.proofs.lemmas.List.{length_push}
use Rattle.std.proofs.lemmas.Option.{same_Some}
use Rattle.eco_trace.specs.declared.clause.Lit.{Lit}
use Rattle.eco_trace.specs.Resolution.{Gives, clauses_of}
use Rattle.eco_aig.specs.declared.edge.Edge.{Edge}
use Rattle.eco_aig.specs.Graph.{Grows}
use Rattle.eco_aig.proofs.Growing.{grows_join, grows_more}
use Rattle.eco_itp.specs.Parts.{earlier}
use Rattle.eco_itp.specs.Partial.{IsPartial, ArePartial}
use Rattle.eco_itp.specs.Bound.{links_of}
use Rattle.eco_itp.proofs.Counting.{links_more, links_front}
use Rattle.eco_trace.proofs.NodeLaws.{before_at, clause_of_learnt}
use Rattle.eco_itp.proofs.Chaining.{chain_of, partial_push}
use Rattle.eco_itp.proofs.chain.add_learnt.Goals as goal

pub resolved_along-requires-clause-legal : goal.resolved_along-requires-clause-legal
resolved_along-requires-clause-legal c =
    let p = c.args.parts.now in
    let k = c.loop-number.number - length p.trace.now.originals in
    let chain = chain_of p.trace.now k c.in-Some.start c.in-Some.links.now c.is_sound.ensures.legal c.in-Some.ensures.chain.1 in
    let count : c.loop-number.number ≡ length c.as_slice.result.now = sym (ap length c.as_slice.ensures.value ∙ c.loop-number.invariant.count) in
    (chain.learnt.clause, subst (λ (n : ℕ). Gives (earlier p n) c.in-Some.start c.in-Some.links.now chain.learnt.clause) count chain.gives)

pub resolved_along-requires-clause-partial : goal.resolved_along-requires-clause-partial
resolved_along-requires-clause-partial c = λ k clause e at_clause at_edge.
    c.loop-number.invariant.partial k clause e (before_at c.args.parts.now.trace.now _ k clause at_clause) (ap (λ (list : List Edge). slice_get list k) (sym c.as_slice.ensures.value) ∙ at_edge)

pub returns-in_err-edge-in-Some-clause-grows : goal.returns-in_err-edge-in-Some-clause-grows
returns-in_err-edge-in-Some-clause-grows c =
    let p = c.args.parts.now in
    let k = c.loop-number.number - length p.trace.now.originals in
    let chain = chain_of p.trace.now k c.in-Some.start c.in-Some.links.now c.is_sound.ensures.legal c.in-Some.ensures.chain.1 in
    let more = links_more p.trace.now.learnt k chain.learnt c.in-Some.links.now chain.at chain.links_is in
    let front = links_front p.trace.now.learnt (k + 1) in
    grows_more c.args.aig.now c.resolved_along.new.aig _ _ (omega (arith, more, front)) (grows_join c.args.aig.now c.loop-number.aig c.resolved_along.new.aig _ _ c.loop-number.invariant.grows c.resolved_along.ensures.grows)

pub returns-in_err-push-in-Some-clause-grows : goal.returns-in_err-push-in-Some-clause-grows
returns-in_err-push-in-Some-clause-grows c =
    let p = c.args.parts.now in
    let k = c.loop-number.number - length p.trace.now.originals in
    let chain = chain_of p.trace.now k c.in-Some.start c.in-Some.links.now c.is_sound.ensures.legal c.in-Some.ensures.chain.1 in
    let more = links_more p.trace.now.learnt k chain.learnt c.in-Some.links.now chain.at chain.links_is in
    let front = links_front p.trace.now.learnt (k + 1) in
    grows_more c.args.aig.now c.resolved_along.new.aig _ _ (omega (arith, more, front)) (grows_join c.args.aig.now c.loop-number.aig c.resolved_along.new.aig _ _ c.loop-number.invariant.grows c.resolved_along.ensures.grows)

pub loop-number-preserved : goal.loop-number-preserved
loop-number-preserved c =
    let p = c.args.parts.now in
    let first = length p.trace.now.originals in
    let n = c.loop-number.number in
    let k = n - first in
    let old = c.loop-number.edges.items in
    let invariant = c.loop-number.invariant in
    let pushed = c.in_ok-push-in-Some.ensures.items in
    let behind : first ≤ n = c.in-Some.ensures.chain.0 in
    let chain = chain_of p.trace.now k c.in-Some.start c.in-Some.links.now c.is_sound.ensures.legal c.in-Some.ensures.chain.1 in
    let more = links_more p.trace.now.learnt k chain.learnt c.in-Some.links.now chain.at chain.links_is in
    let count : n ≡ length c.as_slice.result.now = sym (ap length c.as_slice.ensures.value ∙ invariant.count) in
    let place : first + k ≡ length old = (let same = invariant.count in omega (arith, same, behind)) in
    let after : links_of (take k p.trace.now.learnt) + length c.in-Some.links.now ≡ links_of (take ((n + 1) - first) p.trace.now.learnt) =
    (let step : k + 1 ≡ (n + 1) - first = omega (arith, behind) in sym more ∙ ap (λ (j : ℕ). links_of (take j p.trace.now.learnt)) step)
    in
    let at = clause_of_learnt p.trace.now k chain.learnt chain.at in
    record {
      count = ap length pushed ∙ length_push old c.in_ok-edge-in-Some.edge ∙ ap (λ (j : ℕ). j + 1) invariant.count;
      partial = subst (ArePartial p c.resolved_along.new.aig (clauses_of p.trace.now)) (sym pushed) (partial_push p c.loop-number.aig c.resolved_along.new.aig _ (clauses_of p.trace.now) old c.in_ok-edge-in-Some.edge c.resolved_along.ensures.grows (λ clause here.
          let same : chain.learnt.clause ≡ clause = same_Some chain.learnt.clause clause (sym at ∙ ap (slice_get (clauses_of p.trace.now)) place ∙ here) in
          subst (λ (list : List Lit). IsPartial p c.resolved_along.new.aig list c.in_ok-edge-in-Some.edge) same (c.in_ok-edge-in-Some.ensures.partial chain.learnt.clause (subst (λ (j : ℕ). Gives (earlier p j) c.in-Some.start c.in-Some.links.now chain.learnt.clause) count chain.gives))) invariant.partial);
      grows = subst (Grows c.args.aig.now c.resolved_along.new.aig) after (grows_join c.args.aig.now c.loop-number.aig c.resolved_along.new.aig _ _ invariant.grows c.resolved_along.ensures.grows);
    }
