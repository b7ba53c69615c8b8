use Rattle.std.proofs.lemmas.Bool.{iff_false}
use Rattle.std.proofs.lemmas.Result.{IfOk-weaker}
use Rattle.eco_prooftext.proofs.ReadLaws.{word_closed, word_opened}
use Rattle.eco_prooftext.proofs.reader.Body.take_word.Goals as goal

pub returns-then-is_end : goal.returns-then-is_end
returns-then-is_end c =
    IfOk-weaker c.close.result _ _
    (λ fits h. word_closed c.args.word.now c.args.self.now _ fits (c.is_end.ensures.0 c.if-is_end.true) h)
    c.close.ensures

pub returns-else-is_end : goal.returns-else-is_end
returns-else-is_end c =
    IfOk-weaker c.open.result _ _
    (λ fits h. word_opened c.args.word.now c.args.self.now _ fits (iff_false c.is_end.ensures c.if-is_end.false) h)
    c.open.ensures
