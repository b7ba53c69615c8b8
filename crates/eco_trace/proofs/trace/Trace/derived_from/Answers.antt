use Rattle.std.proofs.Common.{List, get_or, sym, subst}
use Rattle.std.proofs.lemmas.Option.{MatchOption-at_none, MatchOption-at_some}
use Rattle.eco_trace.specs.declared.node.Link.{Link}
use Rattle.eco_trace.specs.declared.clause.Lit.{Lit}
use Rattle.eco_trace.specs.Clauses.{IsClause}
use Rattle.eco_trace.specs.Resolution.{clauses_of, IsLinked}
use Rattle.eco_trace.specs.Merging.{IsDeriving}
use Rattle.eco_trace.proofs.ChainLaws.{deriving_start, deriving_step, deriving_stop, deriving_end}
use Rattle.eco_trace.proofs.trace.Trace.derived_from.Goals as goal

pub loop-link-init : goal.loop-link-init
loop-link-init c =
    subst
    (λ (made : List Lit). IsDeriving (clauses_of c.args.self.now) c.args.begin.now c.args.links.now 0 made)
    (sym c.in_ok-clause.ensures.items)
    (deriving_start _ c.args.begin.now c.args.links.now c.requires)

pub resolved-requires : goal.resolved-requires
resolved-requires c = subst IsClause (sym c.as_slice.ensures.value) c.loop-link.invariant.clause_itself

pub returns-in-None-clause-none : goal.returns-in-None-clause-none
returns-in-None-clause-none c =
    let link : Link = get_or c.args.links.now c.loop-link.link-index _ in
    let Q : List Lit → Type 0 = λ ks. (next : List Lit) → IsLinked (clauses_of c.args.self.now) ks link next → ⊥ in
    deriving_stop _ _ _ _ _ _ c.loop-link-test.true c.loop-link.invariant
    (subst Q c.as_slice.ensures.value (MatchOption-at_none _ _ c.in-None.is c.in_ok-resolved.ensures.none))

pub loop-link-preserved : goal.loop-link-preserved
loop-link-preserved c =
    let link : Link = get_or c.args.links.now c.loop-link.link-index _ in
    let Q : List Lit → Type 0 = λ ks. IsLinked (clauses_of c.args.self.now) ks link c.in-Some.next.items in
    deriving_step _ _ _ _ _ _ _ c.loop-link-test.true c.loop-link.invariant
    (subst Q c.as_slice.ensures.value (MatchOption-at_some _ _ c.in-Some.next c.in-Some.is c.in_ok-resolved.ensures.made))

pub returns-clause-made : goal.returns-clause-made
returns-clause-made c = deriving_end _ _ _ _ _ c.loop-link-test.false c.loop-link.invariant
