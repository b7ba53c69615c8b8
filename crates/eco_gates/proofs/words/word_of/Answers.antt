-- The word of the constant 1 is full.
use Rattle.std.proofs.Common.{sym, ◌∙◌, ap}
use Rattle.eco_gates.specs.Evaluation.{term_value}
use Rattle.eco_gates.specs.Words.{lane}
use Rattle.eco_gates.proofs.WordLemmas.{set-all}
use Rattle.eco_gates.proofs.words.word_of.Goals as goal

pub returns-in-One : goal.returns-in-One
returns-in-One c = λ place lt.
    set-all place lt ∙ sym (ap (term_value (lane c.args.words.now place)) c.in-One.is)
