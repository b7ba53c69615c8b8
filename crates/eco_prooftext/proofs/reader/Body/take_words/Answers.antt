use Rattle.std.proofs.lemmas.Bool.{MatchBool-at_false}
use Rattle.eco_prooftext.specs.CnfFile.{Word}
use Rattle.eco_prooftext.specs.Reading.{Continues}
use Rattle.eco_prooftext.proofs.LineReadLaws.{step_stuck}
use Rattle.eco_prooftext.proofs.reader.Body.take_words.Goals as goal

pub returns-then-not-branch : goal.returns-then-not-branch
returns-then-not-branch c =
    step_stuck Continues (λ word. Word word.now) c.args.self.now _ c.args.words.now c.loop-word.word-index _ c.loop-word-test.true c.loop-word.invariant
    (MatchBool-at_false _ _ c.if-not-branch.true c.in_ok-take_word.ensures)
