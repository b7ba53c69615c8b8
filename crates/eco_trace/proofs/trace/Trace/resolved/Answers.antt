use Rattle.std.proofs.lemmas.Result.{IfOk-weaker}
use Rattle.eco_trace.proofs.ChainLaws.{not_linked}
use Rattle.eco_trace.proofs.trace.Trace.resolved.Goals as goal

pub returns-in-Some-clause-none : goal.returns-in-Some-clause-none
returns-in-Some-clause-none c =
    IfOk-weaker c.resolve.result _ _
    (λ made h. not_linked _ c.args.clause.now c.in-Some.other.now c.args.link made c.in-Some.ensures.found h)
    c.resolve.ensures.none
