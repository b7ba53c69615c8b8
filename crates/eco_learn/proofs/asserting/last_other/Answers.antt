-- One more literal, and at the end all of them.
use Rattle.std.proofs.Common.{◌≡◌, ℕ, ◌+◌, List, [], ◌∷◌, ◌++◌, suc, false, take, get_or, ap, sym, ◌∙◌, subst, arith}
use Rattle.std.proofs.lemmas.List.{take_all}
use Rattle.std.proofs.lemmas.Option.{slice_get-get_or}
use Rattle.eco_lists.proofs.Members.{Contains_none}
use Rattle.eco_lists.proofs.Places.{take_at_more}
use Rattle.eco_trace.specs.declared.clause.Lit.{Lit}
use Rattle.eco_learn.specs.Marks.{IsLastOf}
use Rattle.eco_learn.proofs.asserting.last_other.Goals as goal

pub loop-other-init : goal.loop-other-init
loop-other-init c = λ x m. absurd (Contains_none x m)

pub loop-other-preserved : goal.loop-other-preserved
loop-other-preserved c =
    let clause = c.args.clause.now in
    let i = c.loop-other.other-index in
    let d : Lit = record { var = record { 0 = 0 }; positive = false } in
    let suc_i : i + 1 ≡ suc i = omega arith in
    let next : take (i + 1) clause ≡ take i clause ++ get_or clause i d ∷ [] = ap (λ (n : ℕ). take n clause) suc_i ∙ take_at_more clause i (get_or clause i d) (slice_get-get_or clause i d c.loop-other-test.true) in
    subst (λ (done : List Lit). IsLastOf c.args.trail.now.lits done c.args.lit c.later-last.result) (sym next) (c.later-last.ensures (take i clause) c.loop-other.invariant)

pub returns : goal.returns
returns c =
    subst (λ (done : List Lit). IsLastOf c.args.trail.now.lits done c.args.lit c.loop-other.last) (take_all c.loop-other.other-index c.args.clause.now c.loop-other-test.false) c.loop-other.invariant
