-- One more variable, and at the end all of them.
use Rattle.std.proofs.Common.{◌≡◌, ℕ, ◌+◌, List, [], ◌∷◌, ◌++◌, false, suc, take, get_or, ap, sym, ◌∙◌, subst, arith}
use Rattle.std.proofs.lemmas.List.{take_all}
use Rattle.std.proofs.lemmas.Option.{slice_get-get_or}
use Rattle.eco_lists.proofs.Places.{take_at_more}
use Rattle.eco_trace.specs.declared.clause.Lit.{Lit}
use Rattle.eco_learn.specs.Marks.{AreChosen}
use Rattle.eco_learn.proofs.ChosenLaws.{gathered_none}
use Rattle.eco_learn.proofs.choosing.choose_all.Goals as goal

pub loop-lit-init : goal.loop-lit-init
loop-lit-init c = gathered_none c.args.trail.now.lits c.args.marks.now c.clear.new.self.items c.clear.ensures.items

pub loop-lit-preserved : goal.loop-lit-preserved
loop-lit-preserved c =
    let found = c.args.found.now in
    let i = c.loop-lit.lit-index in
    let l : Lit = get_or found i (record { var = record { 0 = 0 }; positive = false }) in
    let suc_i : i + 1 ≡ suc i = omega arith in
    let next : take (i + 1) found ≡ take i found ++ l ∷ [] = ap (λ (n : ℕ). take n found) suc_i ∙ take_at_more found i l (slice_get-get_or found i (record { var = record { 0 = 0 }; positive = false }) c.loop-lit-test.true) in
    subst (λ (done : List Lit). AreChosen c.args.trail.now.lits c.args.marks.now done c.choose.new.clause.items) (sym next) (c.in_ok-choose.ensures (take i found) c.loop-lit.invariant)

pub returns : goal.returns
returns c =
    subst (λ (done : List Lit). AreChosen c.args.trail.now.lits c.args.marks.now done c.loop-lit.clause.items) (take_all c.loop-lit.lit-index c.args.found.now c.loop-lit-test.false) c.loop-lit.invariant
