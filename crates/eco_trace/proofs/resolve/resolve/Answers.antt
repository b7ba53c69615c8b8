use Rattle.std.proofs.lemmas.Result.{IfOk-weaker}
use Rattle.eco_trace.proofs.ResolventLaws.{no_resolvent}
use Rattle.eco_trace.proofs.resolve.resolve.Goals as goal

pub returns-then-are_opposed-clause-none : goal.returns-then-are_opposed-clause-none
returns-then-are_opposed-clause-none c =
    IfOk-weaker c.union_without.result _ _
    (λ made h. no_resolvent c.args.left.now c.args.right.now c.args.pivot made h)
    c.union_without.ensures.none
