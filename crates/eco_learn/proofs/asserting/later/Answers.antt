-- The literal itself counts for nothing; another one is last if it became false later.
use Rattle.std.proofs.Common.{◌≡◌, ℕ, Option, Some, ap, ◌∙◌, subst}
use Rattle.std.specs.List.{slice_get}
use Rattle.eco_trace.specs.Clauses.{complement}
use Rattle.eco_learn.specs.Marks.{IsLastOf}
use Rattle.eco_learn.proofs.AssertLaws.{lit_same, lit_other, last_same, last_first, last_more}
use Rattle.eco_learn.proofs.asserting.later.Goals as goal

pub returns-then-eq : goal.returns-then-eq
returns-then-eq c = λ done h.
    last_same c.args.trail.now.lits done c.args.lit c.args.other c.args.last (lit_same c.args.other c.args.lit c.if-eq.ensures) h

pub returns-in-None : goal.returns-in-None
returns-in-None c = λ done h.
    let lits = c.args.trail.now.lits in
    let at : slice_get lits c.place-place.result ≡ Some (complement c.args.other) = c.place-place.ensures ∙ ap Some c.complement.ensures in
    last_first lits done c.args.lit c.args.other c.place-place.result (lit_other c.args.other c.args.lit c.if-eq.ensures) at (subst (λ (o : Option ℕ). IsLastOf lits done c.args.lit o) c.in-None.is h)

pub returns-in-Some : goal.returns-in-Some
returns-in-Some c = λ done h.
    let lits = c.args.trail.now.lits in
    let at : slice_get lits c.place-place.result ≡ Some (complement c.args.other) = c.place-place.ensures ∙ ap Some c.complement.ensures in
    rw c.max.ensures (last_more lits done c.args.lit c.args.other c.in-Some.known c.place-place.result (lit_other c.args.other c.args.lit c.if-eq.ensures) at (subst (λ (o : Option ℕ). IsLastOf lits done c.args.lit o) c.in-Some.is h))
