-- One more literal, and at the end all of them.
use Rattle.std.proofs.Common.{◌≡◌, ℕ, ◌+◌, ◌<◌, List, [], ◌∷◌, ◌++◌, suc, false, take, drop, get_or, ap, sym, ◌∙◌, subst, arith}
use Rattle.std.proofs.lemmas.List.{take_all, take-append-drop}
use Rattle.std.proofs.lemmas.Option.{slice_get-get_or}
use Rattle.eco_lists.proofs.Members.{Contains_none}
use Rattle.eco_lists.proofs.Places.{take_at_more, pairs_front}
use Rattle.eco_trace.specs.declared.clause.Lit.{Lit}
use Rattle.eco_trace.specs.Clauses.{IsClause}
use Rattle.eco_scan.specs.Scanning.{IsJudged}
use Rattle.eco_scan.proofs.judge.judge.Goals as goal

pub loop-lit-init : goal.loop-lit-init
loop-lit-init c = λ x m. absurd (Contains_none x m)

pub loop-lit-preserved : goal.loop-lit-preserved
loop-lit-preserved c =
    let clause = c.args.clause.now in
    let i = c.loop-lit.lit-index in
    let d : Lit = record { var = record { 0 = 0 }; positive = false } in
    let suc_i : i + 1 ≡ suc i = omega arith in
    let next : take (i + 1) clause ≡ take i clause ++ get_or clause i d ∷ [] = ap (λ (n : ℕ). take n clause) suc_i ∙ take_at_more clause i (get_or clause i d) (slice_get-get_or clause i d c.loop-lit-test.true) in
    let front : IsClause (take (i + 1) clause) = pairs_front (λ (a b : Lit). a.var.0 < b.var.0) (take (i + 1) clause) (drop (i + 1) clause) (subst IsClause (sym (take-append-drop (i + 1) clause)) c.requires.clause) in
    subst (λ (done : List Lit). IsJudged c.args.trail.now.lits done c.with_lit-judgement.result) (sym next) (c.with_lit-judgement.ensures (take i clause) (subst IsClause next front) c.loop-lit.invariant)

pub returns : goal.returns
returns c =
    subst (λ (done : List Lit). IsJudged c.args.trail.now.lits done c.loop-lit.judgement) (take_all c.loop-lit.lit-index c.args.clause.now c.loop-lit-test.false) c.loop-lit.invariant
