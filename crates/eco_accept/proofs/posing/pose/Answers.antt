-- The function's variables fit, and the clauses are the question.
use Rattle.std.proofs.lemmas.Result.{on_ok_weaker}
use Rattle.eco_accept.proofs.Questions.{function_fits, function_posed}
use Rattle.eco_accept.proofs.posing.pose.Goals as goal

pub add_function-added-requires-clause-fits : goal.add_function-added-requires-clause-fits
add_function-added-requires-clause-fits c =
    function_fits c.args.aig.now c.args.root c.args.shared.now c.in_ok-function.function c.args.cnf.now.vars c.requires.few c.requires.shared c.in_ok-function.ensures

pub returns-clause-posed : goal.returns-clause-posed
returns-clause-posed c =
    on_ok_weaker c.add_function-added.result (function_posed c.args.cnf.now c.add_function-added.new.cnf c.args.shared.now c.args.part c.args.aig.now c.args.root c.in_ok-function.function c.in_ok-function.ensures) c.add_function-added.ensures.models
