-- The two clauses hold where the variables are equal.
use Rattle.std.proofs.lemmas.Result.{on_ok_weaker}
use Rattle.eco_accept.proofs.Adding.{also_equal}
use Rattle.eco_accept.proofs.posing.add_equality.Goals as goal

pub returns-clause-models : goal.returns-clause-models
returns-clause-models c =
    on_ok_weaker c.add_equal.result (also_equal c.args.cnf.now c.add_equal.new.self c.args.left c.args.right c.literal.result c.literal-2.result c.literal.ensures c.literal-2.ensures) c.add_equal.ensures.ok
