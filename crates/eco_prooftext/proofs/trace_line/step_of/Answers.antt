use Rattle.std.proofs.Common.{rules}
use Rattle.eco_prooftext.proofs.WordLaws.{first_cut, front_ok}
use Rattle.eco_prooftext.proofs.trace_line.step_of.Goals as goal

pub returns-in-len1-up-clause-some : goal.returns-in-len1-up-clause-some
returns-in-len1-up-clause-some c =
    let some = c.in-len1-up.len_at_least in
    front_ok c.args.front.now _ _ c.step_with.result (search (rules, some, first_cut)) (c.are_positive.ensures.0 c.if-not-are_positive.false) c.step_with.ensures.some
