use Rattle.eco_weight.proofs.WordLemmas.{next_from}
use Rattle.eco_weight.proofs.words.next_word.Goals as goal

pub returns : goal.returns
returns c =
    next_from c.args.bytes.now c.split_at.result.1.now _ _ c.blank_run.result c.word_run.result c.blank_run.ensures.value c.split_at.ensures.back c.word_run.ensures.value c.split_at-2.ensures.front c.split_at-2.ensures.back
