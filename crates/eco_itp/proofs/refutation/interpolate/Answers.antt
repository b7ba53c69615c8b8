-- From the parts of the proof to the edge of its last clause.
use Rattle.std.proofs.Common.{◌≡◌, ◌-◌, [], Some, length, get_or, sym, ◌∙◌, ap, subst, refl, arith, rules}
use Rattle.std.specs.List.{slice_get}
use Rattle.std.proofs.lemmas.Option.{slice_get_within, slice_get_read}
use Rattle.eco_trace.specs.Resolution.{Proof, EndsEmpty, clauses_of}
use Rattle.eco_aig.proofs.Growing.{grows_join, grows_more}
use Rattle.eco_itp.specs.Between.{IsCovered, IsBetween}
use Rattle.eco_itp.specs.Bound.{links_of, literals_of_a}
use Rattle.eco_itp.proofs.Leaving.{original_at}
use Rattle.eco_itp.proofs.Chaining.{said_of_given, said_of_parts, between_last}
use Rattle.eco_itp.proofs.refutation.interpolate.Goals as goal

pub leaves-requires-clause-covered : goal.leaves-requires-clause-covered
leaves-requires-clause-covered c =
    let parts = c.in_ok-parts.ensures in
    said_of_parts IsCovered c.in_ok-parts.parts c.args.trace.now c.args.side.now c.args.shared.now parts.trace parts.side parts.shared c.requires.covered

pub add_learnt-requires-clause-partial : goal.add_learnt-requires-clause-partial
add_learnt-requires-clause-partial c = λ k clause e at_clause at_edge.
    let originals = c.in_ok-parts.parts.trace.now.originals in
    let within = slice_get_within c.in_ok-edges.edges.items k e at_edge in
    c.in_ok-edges.ensures.partial k clause e (original_at originals _ k clause (omega (arith, within, c.in_ok-edges.ensures.length)) at_clause) at_edge

pub returns-in_err-add_learnt-clause-grows : goal.returns-in_err-add_learnt-clause-grows
returns-in_err-add_learnt-clause-grows c =
    let p = c.in_ok-parts.parts in
    let parts = c.in_ok-parts.ensures in
    let links : links_of p.trace.now.learnt ≡ links_of c.args.trace.now.learnt = ap (λ (t : Proof). links_of t.learnt) parts.trace in
    let literals : literals_of_a p.trace.now.originals p.side.now ≡ literals_of_a c.args.trace.now.originals c.args.side.now =
    ap (λ (t : Proof). literals_of_a t.originals p.side.now) parts.trace ∙ ap (literals_of_a c.args.trace.now.originals) parts.side
    in
    grows_more c.args.aig.now c.add_learnt.new.aig _ _ (omega (arith, links, literals)) (grows_join c.args.aig.now c.leaves.new.aig c.add_learnt.new.aig _ _ c.leaves.ensures.grows c.add_learnt.ensures.grows)

pub returns-clause-grows : goal.returns-clause-grows
returns-clause-grows c =
    let p = c.in_ok-parts.parts in
    let parts = c.in_ok-parts.ensures in
    let links : links_of p.trace.now.learnt ≡ links_of c.args.trace.now.learnt = ap (λ (t : Proof). links_of t.learnt) parts.trace in
    let literals : literals_of_a p.trace.now.originals p.side.now ≡ literals_of_a c.args.trace.now.originals c.args.side.now =
    ap (λ (t : Proof). literals_of_a t.originals p.side.now) parts.trace ∙ ap (literals_of_a c.args.trace.now.originals) parts.side
    in
    grows_more c.args.aig.now c.add_learnt.new.aig _ _ (omega (arith, links, literals)) (grows_join c.args.aig.now c.leaves.new.aig c.add_learnt.new.aig _ _ c.leaves.ensures.grows c.add_learnt.ensures.grows)

pub returns-clause-between : goal.returns-clause-between
returns-clause-between c =
    let p = c.in_ok-parts.parts in
    let parts = c.in_ok-parts.ensures in
    let edges = c.add_learnt.new.edges.items in
    let e = c.index.result.now in
    let len = c.in_ok-add_learnt.ensures.length in
    let ends : EndsEmpty p.trace.now = subst EndsEmpty (sym parts.trace) c.requires.refutation in
    let some = slice_get_within (clauses_of p.trace.now) (length (clauses_of p.trace.now) - 1) [] ends in
    let count : c.len.result ≡ length edges = search rules in
    let last : slice_get edges (length edges - 1) ≡ Some e = slice_get_read edges (length edges) (length edges - 1) e refl (omega (arith, some, len)) (c.index.ensures ∙ ap (λ n. get_or edges (n - 1) e) count) in
    said_of_given (λ s shared. IsBetween s shared c.add_learnt.new.aig e) p c.args.trace.now c.args.side.now c.args.shared.now parts.trace parts.side parts.shared (between_last p c.add_learnt.new.aig edges e ends len last c.in_ok-add_learnt.ensures.partial)
