use Rattle.std.proofs.Common.{append_assoc, arith}
use Rattle.std.proofs.lemmas.List.FromFn.{map-range_with_len_more}
use Rattle.eco_gen.specs.Drawn.{output_name}
use Rattle.eco_gen.proofs.nets.add_outputs.Goals as goal

pub loop-number-preserved : goal.loop-number-preserved
loop-number-preserved c =
    let more = map-range_with_len_more output_name 0 c.loop-number.number c.loop-number.number (omega arith) in
    rw (c.in_ok-add_output.ensures, c.loop-number.invariant, c.in_ok-numbered.ensures, more) (simp append_assoc)
