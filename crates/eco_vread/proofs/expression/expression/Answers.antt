use Rattle.std.proofs.Common.{rules, map, sym, ◌∙◌}
use Rattle.eco_vread.specs.Trees.{left}
use Rattle.eco_vread.specs.Postfix.{sign_of}
use Rattle.eco_vread.specs.Kept.{place_of}
use Rattle.eco_vread.proofs.Steps.{no_expression, whole_expression, whole_formed}
use Rattle.eco_vread.proofs.expression.expression.Goals as goal

pub returns-in_err-is_now-clause-given : goal.returns-in_err-is_now-clause-given
returns-in_err-is_now-clause-given c =
    search (rules, no_expression (left c.args.at) (left c.loop-reading.here) (place_of c.loop-reading.is_behind c.loop-reading.reading) c.loop-reading.invariant)

pub returns-in-None-clause-given : goal.returns-in-None-clause-given
returns-in-None-clause-given c =
    whole_expression (λ found. (map sign_of found.0.items, left found.1)) c.end.result (left c.args.at) (left c.loop-reading.here) (place_of c.loop-reading.is_behind c.loop-reading.reading) _ c.loop-reading.invariant (rw c.in-None.is at c.in_ok-is_now.ensures.goes) c.end.ensures

pub returns-in-None-clause-formed : goal.returns-in-None-clause-formed
returns-in-None-clause-formed c =
    whole_formed (λ found. (map sign_of found.0.items, left found.1)) c.end.result (left c.args.at) (left c.loop-reading.here) (place_of c.loop-reading.is_behind c.loop-reading.reading) _ c.loop-reading.invariant (rw c.in-None.is at c.in_ok-is_now.ensures.goes) c.end.ensures

pub loop-reading-preserved : goal.loop-reading-preserved
loop-reading-preserved c = sym (rw c.in-Some.is at c.in_ok-is_now.ensures.goes) ∙ c.loop-reading.invariant

pub loop-reading-smaller : goal.loop-reading-smaller
loop-reading-smaller c = rw c.in-Some.is at c.in_ok-is_now.ensures.fewer
