-- The nets are judged after each of both.
use Rattle.std.proofs.Common.{ℕ}
use Rattle.std.proofs.lemmas.Result.{IfOk-weaker}
use Rattle.eco_locate.specs.Judged.{IsJudged}
use Rattle.eco_locate.proofs.covering.with_few.Goals as goal

pub with_fewer-requires-2 : goal.with_fewer-requires-2
with_fewer-requires-2 c = (c.requires.0, c.in_ok-fewer.ensures c.requires.0 c.requires.1)

pub returns : goal.returns
returns c =
    let f = c.args.change.now.old in
    let wanted = c.args.change.now.goal in
    IfOk-weaker c.with_fewer-2.result (λ few. (limit : ℕ) → IsJudged f wanted limit c.in_ok-fewer.fewer → IsJudged f wanted limit few) _
    (λ few judged limit is. judged limit (c.in_ok-fewer.ensures limit is)) c.with_fewer-2.ensures
