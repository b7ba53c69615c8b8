use Rattle.std.proofs.Common.{rules, tests, List, ℕ, Ok, refl, ap, subst, length, filter}
use Rattle.std.specs.List.{slice_split}
use Rattle.std.proofs.lemmas.Iterator.Consumers.{YieldsList-turn, YieldsList-end}
use Rattle.std.proofs.lemmas.Iterator.Splits.{YieldsList-from_slice_split}
use Rattle.eco_lists.specs.Lines.{is_blank}
use Rattle.eco_prooftext.specs.TraceFile.{is_word, AreNumbers}
use Rattle.eco_prooftext.proofs.WordLaws.{none_at}
use Rattle.eco_prooftext.proofs.trace_line.numbers_of.Goals as goal

pub returns-then-not-branch-clause-none : goal.returns-then-not-branch-clause-none
returns-then-not-branch-clause-none c =
    let turn = YieldsList-turn (YieldsList-from_slice_split _ is_blank c.args.line.now (cc) (cc) refl (λ x r q k. search (rules, tests))) c.loop-piece.yielded _ c.loop-piece.yielded_by _ _ _ c.in-Some.is c.next.ensures.steps in
    let word = c.in_ok-take_word.ensures.word (ap (λ b. Ok b) c.if-not-branch.true) in
    let fault = c.in_ok-take_word.ensures.fault (ap (λ b. Ok b) c.if-not-branch.true) in
    none_at (slice_split is_blank c.args.line.now) (length c.loop-piece.yielded) _ turn.0 turn.1 word fault

pub returns-clause-some : goal.returns-clause-some
returns-clause-some c =
    let end = YieldsList-end (YieldsList-from_slice_split _ is_blank c.args.line.now (cc) (cc) refl (λ x r q k. search (rules, tests))) c.loop-piece.yielded _ c.loop-piece.yielded_by _ _ c.in-None.is c.next.ensures.steps in
    subst (λ (ps : List (List ℕ)). AreNumbers (filter is_word ps) c.loop-piece.numbers.items) end.0 c.loop-piece.invariant.taken
