-- A clause's variables by their numbers.
use Rattle.std.proofs.Common.{nat_eq}
use Rattle.std.specs.HashSet.{contains}
use Rattle.std.proofs.lemmas.Result.{on_ok_weaker}
use Rattle.eco_trace.proofs.Occurring.{added_clause}
use Rattle.eco_trace.proofs.variables.Variables.add_clause.Goals as goal

pub returns : goal.returns
returns c =
    on_ok_weaker c.add_variables.result
    (added_clause (contains nat_eq c.args.self.now.numbers) (contains nat_eq c.add_variables.new.numbers) c.args.clause.now)
    c.add_variables.ensures
