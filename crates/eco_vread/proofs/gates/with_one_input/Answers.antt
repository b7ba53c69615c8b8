use Rattle.std.proofs.Common.{rules, ap}
use Rattle.eco_vread.specs.Views.{identifier_of, identifiers_of, term_of}
use Rattle.eco_vread.specs.Trees.{left}
use Rattle.eco_vread.specs.Fronts.{repeated}
use Rattle.eco_vread.specs.Parse.{connection_at, after_output}
use Rattle.eco_vread.specs.Connections.{step_of}
use Rattle.eco_vread.proofs.Repeats.{fault_in_steps, end_of_steps, step_of_steps, less_behind_step, pushed}
use Rattle.eco_vread.proofs.Statements.{connection_less}
use Rattle.eco_vread.proofs.gates.with_one_input.Goals as goal

pub returns-in_err-connection : goal.returns-in_err-connection
returns-in_err-connection c = search (rules, fault_in_steps connection_at connection_less (identifiers_of c.loop-outputs.outputs.items) (left c.loop-outputs.here) (after_output (identifier_of c.args.first) (repeated connection_at (left c.args.at))) c.loop-outputs.invariant)

pub returns-in-Input : goal.returns-in-Input
returns-in-Input c =
    end_of_steps connection_at connection_less step_of (identifiers_of c.loop-outputs.outputs.items) (left c.loop-outputs.here) (left c.in_ok-connection.next) c.in_ok-connection.connection (term_of c.in-Input.input) _ c.loop-outputs.invariant (search rules) (ap step_of c.in-Input.is)

pub loop-outputs-preserved : goal.loop-outputs-preserved
loop-outputs-preserved c =
    step_of_steps connection_at connection_less step_of (identifiers_of c.loop-outputs.outputs.items) (identifiers_of c.push-in-Output.new.self.items) (left c.loop-outputs.here) (left c.in_ok-connection.next) c.in_ok-connection.connection (identifier_of c.in-Output.output) _ c.loop-outputs.invariant (search rules) (ap step_of c.in-Output.is) (pushed identifier_of c.loop-outputs.outputs.items c.push-in-Output.new.self.items c.in-Output.output (search rules))

pub loop-outputs-smaller : goal.loop-outputs-smaller
loop-outputs-smaller c =
    less_behind_step connection_at connection_less step_of (left c.loop-outputs.here) (left c.in_ok-connection.next) c.in_ok-connection.connection (search rules)
