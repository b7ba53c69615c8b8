use Rattle.std.proofs.Common.{refl}
use Rattle.eco_aiger.proofs.SectionLaws.{before_at}
use Rattle.eco_aiger.proofs.sections.before_comment.Goals as goal

pub returns-then-is_comment : goal.returns-then-is_comment
returns-then-is_comment c = before_at c.args.lines.now c.loop-index.index _ c.loop-index-test.true (c.if-is_comment.ensures.0 refl) c.loop-index.invariant
