use Rattle.eco_prooftext.proofs.WordLaws.{one_left, pairs_odd}
use Rattle.eco_prooftext.proofs.trace_line.pairs_of.Goals as goal

pub returns-else-is_empty-clause-none : goal.returns-else-is_empty-clause-none
returns-else-is_empty-clause-none c = λ pairs e.
    let one = one_left c.loop-rest.rest.now c.in_default.len_below (cc (c.is_empty.ensures, c.if-is_empty.false)) in
    pairs_odd c.loop-rest.pairs.items pairs c.loop-rest.rest.now c.args.numbers.now c.loop-rest.invariant one e
