-- With fewer inputs the nets are judged too.
use Rattle.std.proofs.Common.{ℕ}
use Rattle.std.proofs.lemmas.Result.{IfOk-weaker}
use Rattle.eco_locate.specs.Judged.{IsJudged}
use Rattle.eco_locate.proofs.locating.located_by.Goals as goal

pub returns-in-Ok : goal.returns-in-Ok
returns-in-Ok g c =
    let f = c.args.change.now.old in
    let wanted = c.args.change.now.goal in
    IfOk-weaker c.with_few.result (λ fewer. (limit : ℕ) → IsJudged f wanted limit c.go_on.new.progress.located → IsJudged f wanted limit fewer) _
    (λ fewer judged. judged c.args.limit c.in-Ok.ensures) c.with_few.ensures
