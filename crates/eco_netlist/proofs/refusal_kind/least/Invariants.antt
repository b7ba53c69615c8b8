use Rattle.std.proofs.Common.{take, zip}
use Rattle.std.specs.Option.{option_copied}
use Rattle.eco_netlist.specs.Tallies.{IsLeast}
use Rattle.eco_netlist.proofs.refusal_kind.least.Given as goal

abbrev pub invariant-loop-net : goal.invariant-loop-net
invariant-loop-net l = IsLeast l.refusal_kind l.rule (zip (take l.net l.names) (take l.net l.tallies)) (option_copied l.least)
