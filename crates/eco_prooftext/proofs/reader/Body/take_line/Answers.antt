use Rattle.std.proofs.Common.{map, ap, sym, ◌∙◌}
use Rattle.std.proofs.lemmas.Result.{IfOk-weaker}
use Rattle.eco_prooftext.proofs.LineReadLaws.{words_line}
use Rattle.eco_prooftext.proofs.reader.Body.take_line.Goals as goal

pub returns-in_ok-words : goal.returns-in_ok-words
returns-in_ok-words c =
    IfOk-weaker c.take_words.result _ _
    (λ fits h. words_line c.args.line.now c.as_slice.result.now c.args.self.now _ fits (sym c.is_comment.ensures ∙ c.if-is_comment.false)
    (ap (map (λ w. w.now)) c.as_slice.ensures.value ∙ c.in_ok-words.ensures) h)
    c.take_words.ensures
