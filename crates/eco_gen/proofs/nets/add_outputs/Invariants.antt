use Rattle.std.proofs.Common.{◌≡◌, ◌++◌, map}
use Rattle.std.specs.List.{range_with_len}
use Rattle.eco_gen.specs.Drawn.{output_name}
use Rattle.eco_gen.proofs.nets.add_outputs.Given as goal

abbrev pub invariant-loop-number : goal.invariant-loop-number
invariant-loop-number l = l.draft ≡ record l.fn.draft {
  header = l.fn.draft.header ++ map output_name (range_with_len 0 l.number);
  outputs = l.fn.draft.outputs ++ map output_name (range_with_len 0 l.number);
}
