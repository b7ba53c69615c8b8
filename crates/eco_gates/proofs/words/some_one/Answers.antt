-- One more term.
use Rattle.eco_gates.specs.Evaluation.{term_value}
use Rattle.eco_gates.specs.Words.{lane}
use Rattle.eco_gates.proofs.WordLemmas.{some-more}
use Rattle.eco_gates.proofs.words.some_one.Goals as goal

pub loop-term-preserved : goal.loop-term-preserved
loop-term-preserved c = λ place lt.
    some-more (term_value (lane c.args.words.now place)) c.args.terms.now c.loop-term.term-index _ c.loop-term.word c.word_of-word.result place
    c.loop-term-test.true (c.loop-term.invariant place lt) (c.word_of-word.ensures place lt)
