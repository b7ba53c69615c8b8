-- By what was known, and the literal's truth.
use Rattle.std.proofs.Common.{subst}
use Rattle.eco_scan.specs.declared.judge.Judgement.{Judgement}
use Rattle.eco_scan.specs.Scanning.{IsJudged}
use Rattle.eco_scan.proofs.JudgeLaws.{unforced_more, judged_first, judged_second}
use Rattle.eco_scan.proofs.judge.with_lit.Goals as goal

pub returns-in-Unforced : goal.returns-in-Unforced
returns-in-Unforced c = λ done clause h.
    unforced_more c.args.trail.now.lits done c.args.lit (subst (λ (j : Judgement). IsJudged c.args.trail.now.lits done j) c.in-Unforced.is h)

pub returns-in-Wrong : goal.returns-in-Wrong
returns-in-Wrong c = λ done clause h.
    rw c.first_open.ensures (judged_first c.args.trail.now.lits done c.args.lit c.truth.result c.truth.ensures (subst (λ (j : Judgement). IsJudged c.args.trail.now.lits done j) c.in-Wrong.is h))

pub returns-in-Forces : goal.returns-in-Forces
returns-in-Forces c = λ done clause h.
    rw c.second_open.ensures (judged_second c.args.trail.now.lits done c.args.lit c.in-Forces.forced c.truth-in-Forces.result clause c.truth-in-Forces.ensures (subst (λ (j : Judgement). IsJudged c.args.trail.now.lits done j) c.in-Forces.is h))
