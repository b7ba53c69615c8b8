-- One more variable, and at the end all of them.
use Rattle.std.proofs.Common.{◌≡◌, ℕ, ◌+◌, ◌<◌, Bool, true, false, List, [], ◌∷◌, ◌++◌, suc, length, set, take, get_or, ap, sym, ◌∙◌, subst, arith}
use Rattle.std.proofs.lemmas.List.{take_all}
use Rattle.std.proofs.lemmas.Option.{slice_get-get_or}
use Rattle.eco_lists.proofs.Places.{take_at_more}
use Rattle.eco_trace.specs.declared.clause.Lit.{Lit}
use Rattle.eco_learn.specs.Marks.{HasGot}
use Rattle.eco_learn.proofs.MarkLaws.{got_none, got_more}
use Rattle.eco_learn.proofs.marking.mark.Goals as goal

pub insert-requires : goal.insert-requires
insert-requires c =
    omega (arith, c.requires.within c.loop-lit.lit-index (record { var = record { 0 = 0 }; positive = false }) c.loop-lit-test.true, c.loop-lit.invariant.long)

pub loop-lit-init : goal.loop-lit-init
loop-lit-init c = got_none c.args.marks.now

pub loop-lit-preserved : goal.loop-lit-preserved
loop-lit-preserved c =
    let clause = c.args.clause.now in
    let i = c.loop-lit.lit-index in
    let l : Lit = get_or clause i (record { var = record { 0 = 0 }; positive = false }) in
    let lt : l.var.0 < length c.loop-lit.marks = omega (arith, c.requires.within i (record { var = record { 0 = 0 }; positive = false }) c.loop-lit-test.true, c.loop-lit.invariant.long) in
    let suc_i : i + 1 ≡ suc i = omega arith in
    let next : take (i + 1) clause ≡ take i clause ++ l ∷ [] = ap (λ (n : ℕ). take n clause) suc_i ∙ take_at_more clause i l (slice_get-get_or clause i (record { var = record { 0 = 0 }; positive = false }) c.loop-lit-test.true) in
    let more = got_more c.args.marks.now (take i clause) c.loop-lit.marks l c.loop-lit.invariant lt in
    subst (λ (m : List Bool). HasGot c.args.marks.now (take (i + 1) clause) m) (sym c.in_ok-insert.ensures.ok) (subst (λ (done : List Lit). HasGot c.args.marks.now done (set c.loop-lit.marks l.var.0 true)) (sym next) more)

pub returns : goal.returns
returns c =
    record { got = subst (λ (done : List Lit). HasGot c.args.marks.now done c.loop-lit.marks) (take_all c.loop-lit.lit-index c.args.clause.now c.loop-lit-test.false) c.loop-lit.invariant; long = c.loop-lit.invariant.long }
