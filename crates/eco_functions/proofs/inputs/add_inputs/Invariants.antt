-- The inputs and the signals so far.
use Rattle.std.proofs.Common.{◌≡◌, ◌+◌, ◌++◌, length, take}
use Rattle.eco_functions.specs.Inputs.{HasMoreInputs}
use Rattle.eco_functions.proofs.inputs.add_inputs.Given as goal

abbrev pub invariant-loop-net : goal.invariant-loop-net
invariant-loop-net l = record {
  inputs : HasMoreInputs l.fn.aig l.net-index l.aig;
  count : length l.aig ≡ length l.fn.aig + l.net-index;
  base : l.base.items ≡ l.fn.base.items ++ take l.net-index l.more;
}
