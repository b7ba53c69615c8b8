use Rattle.std.proofs.Common.{List, ℕ, [], ◌∷◌, ◌++◌, filter, sym, subst}
use Rattle.eco_prooftext.specs.TraceFile.{is_word, AreNumbers}
use Rattle.eco_prooftext.proofs.WordLaws.{some_word, word_adds}
use Rattle.eco_prooftext.proofs.trace_line.take_word.Goals as goal

pub returns-in_ok-push-in-Some-clause-sound : goal.returns-in_ok-push-in-Some-clause-sound
returns-in_ok-push-in-Some-clause-sound c = λ _ words h.
    let word = some_word c.args.piece.now (cc (c.is_empty.ensures, c.if-is_empty.false)) in
    subst (λ (ns : List ℕ). AreNumbers (words ++ filter is_word (c.args.piece.now ∷ [])) ns) (sym c.in_ok-push-in-Some.ensures.items)
    (word_adds c.args.piece.now c.in-Some.number c.args.numbers.now.items word c.in-Some.ensures.some words h)
