use Rattle.std.proofs.Common.{rules, ap, map}
use Rattle.eco_vread.specs.Trees.{left, statement_of, item_step}
use Rattle.eco_vread.specs.Fronts.{repeated}
use Rattle.eco_vread.specs.Parse.{item_at}
use Rattle.eco_vread.proofs.Repeats.{fault_in_steps, end_of_steps, step_of_steps, less_behind_step, pushed}
use Rattle.eco_vread.proofs.Files.{item_less, no_statements, all_statements}
use Rattle.eco_vread.proofs.parse.statements.Goals as goal

pub returns-in_err-found : goal.returns-in_err-found
returns-in_err-found c = search (rules, no_statements (left c.args.at), fault_in_steps item_at item_less (map statement_of c.loop-statements.statements.items) (left c.loop-statements.here) (repeated item_at (left c.args.at)) c.loop-statements.invariant)

pub returns-in-None : goal.returns-in-None
returns-in-None c =
    all_statements (left c.args.at) (left c.in_ok-found.next) (map statement_of c.loop-statements.statements.items) (end_of_steps item_at item_less item_step (map statement_of c.loop-statements.statements.items) (left c.loop-statements.here) (left c.in_ok-found.next) c.in_ok-found.found tt _ c.loop-statements.invariant (search rules) (ap item_step c.in-None.is))

pub loop-statements-preserved : goal.loop-statements-preserved
loop-statements-preserved c =
    step_of_steps item_at item_less item_step (map statement_of c.loop-statements.statements.items) (map statement_of c.push.new.self.items) (left c.loop-statements.here) (left c.in_ok-found.next) c.in_ok-found.found (statement_of c.in-Some.statement) _ c.loop-statements.invariant (search rules) (ap item_step c.in-Some.is) (pushed statement_of c.loop-statements.statements.items c.push.new.self.items c.in-Some.statement (search rules))

pub loop-statements-smaller : goal.loop-statements-smaller
loop-statements-smaller c =
    less_behind_step item_at item_less item_step (left c.loop-statements.here) (left c.in_ok-found.next) c.in_ok-found.found (search rules)
