-- A clause of A, and one of B.
use Rattle.std.proofs.Common.{◌≡◌, ◌<◌, List, Some, true, false, length, sym, ◌∙◌, subst, arith}
use Rattle.std.specs.List.{slice_get}
use Rattle.std.proofs.lemmas.Result.{IfOk-weaker}
use Rattle.std.proofs.lemmas.Option.{same_Some}
use Rattle.eco_trace.specs.declared.clause.Lit.{Lit}
use Rattle.eco_trace.specs.Clauses.{IsClause}
use Rattle.eco_trace.specs.Resolution.{clauses_of}
use Rattle.eco_aig.specs.Graph.{HasValue}
use Rattle.eco_aig.proofs.Growing.{grows_more}
use Rattle.eco_lists.proofs.Places.{slice_get-append_left, Contains_at}
use Rattle.std.proofs.lemmas.List.Elements.{All-contains}
use Rattle.eco_itp.specs.Parts.{leaf_value, split_of}
use Rattle.eco_itp.specs.Partial.{IsPartial}
use Rattle.eco_itp.proofs.Leaving.{original_at, belongs_by, literals_have_edges, literals_within, partial_of_a, partial_of_b}
use Rattle.eco_itp.proofs.Counting.{leaf_size_of_a}
use Rattle.eco_itp.proofs.leaf.leaf.Goals as goal

pub disjunction-requires-clause-within : goal.disjunction-requires-clause-within
disjunction-requires-clause-within c =
    let p = c.args.parts.now in
    let in' : c.args.number < length p.trace.now.originals = omega (arith, c.requires.number, c.requires.parts.marked) in
    let at = original_at p.trace.now.originals _ c.args.number c.clause.result.now in' c.clause.ensures.clause in
    literals_have_edges p c.clause.result.now c.requires.parts c.requires.covered (belongs_by p c.args.number c.clause.result.now true c.requires.number at c.if-parts-number.true)

pub disjunction-requires-clause-edges : goal.disjunction-requires-clause-edges
disjunction-requires-clause-edges c =
    let p = c.args.parts.now in
    let in' : c.args.number < length p.trace.now.originals = omega (arith, c.requires.number, c.requires.parts.marked) in
    let at = original_at p.trace.now.originals _ c.args.number c.clause.result.now in' c.clause.ensures.clause in
    literals_within p c.args.aig.now c.clause.result.now c.requires.parts c.requires.covered (belongs_by p c.args.number c.clause.result.now true c.requires.number at c.if-parts-number.true) c.requires.within

pub returns-then-parts-number-clause-partial : goal.returns-then-parts-number-clause-partial
returns-then-parts-number-clause-partial c =
    let p = c.args.parts.now in
    let new = c.disjunction.new.aig in
    let found = c.clause.result.now in
    let in' : c.args.number < length p.trace.now.originals = omega (arith, c.requires.number, c.requires.parts.marked) in
    let at = original_at p.trace.now.originals _ c.args.number found in' c.clause.ensures.clause in
    let belongs = belongs_by p c.args.number found true c.requires.number at c.if-parts-number.true in
    IfOk-weaker c.disjunction.result (λ e. HasValue new e (λ w. leaf_value p w found)) (λ e. (clause : List Lit) → slice_get p.trace.now.originals c.args.number ≡ Some clause → IsPartial p new clause e) (λ e has clause here.
    let same : found ≡ clause = same_Some found clause (sym at ∙ here) in
    subst (λ (list : List Lit). IsPartial p new list e) same (partial_of_a p new found e c.requires.parts c.requires.covered c.clause.ensures.formed belongs has)) c.disjunction.ensures.value

pub returns-then-parts-number-clause-grows : goal.returns-then-parts-number-clause-grows
returns-then-parts-number-clause-grows c =
    let p = c.args.parts.now in
    let found = c.clause.result.now in
    let in' : c.args.number < length p.trace.now.originals = omega (arith, c.requires.number, c.requires.parts.marked) in
    let at = original_at p.trace.now.originals _ c.args.number found in' c.clause.ensures.clause in
    let size = leaf_size_of_a (split_of p) c.args.number found c.if-parts-number.true at in
    grows_more c.args.aig.now c.disjunction.new.aig _ _ (omega (arith, size)) c.disjunction.ensures.grows

pub returns-else-parts-number-clause-partial : goal.returns-else-parts-number-clause-partial
returns-else-parts-number-clause-partial c = λ clause at.
    let p = c.args.parts.now in
    let among = slice_get-append_left p.trace.now.originals _ c.args.number clause at in
    let formed = All-contains IsClause (clauses_of p.trace.now) clause c.is_sound.ensures.formed (Contains_at (clauses_of p.trace.now) c.args.number clause among) in
    partial_of_b p c.args.aig.now clause c.requires.parts c.nodes.ensures.graph formed (belongs_by p c.args.number clause false c.requires.number at c.if-parts-number.false)
