-- The values of the patched netlist are those of a map that is reached.
use Rattle.std.proofs.Common.{◌∙◌, arith, length, sym, ap, subst}
use Rattle.eco_meaning.specs.Circuit.{Circuit}
use Rattle.eco_netlist.specs.Values.{AreValuesAt}
use Rattle.eco_audit.proofs.NetValues.{filled_is_reached}
use Rattle.eco_audit.proofs.filling.values_at.Goals as goal

pub values_at-requires : goal.values_at-requires
values_at-requires c =
    ap length c.as_slice.ensures ∙ c.requires.input ∙ sym (ap (λ (n : Circuit). length n.inputs) (c.requires.judged.before 9 (omega arith)))

pub returns : goal.returns
returns c =
    let s = c.args.solution.now in
    let bits = c.in_ok-values.values.items in
    filled_is_reached s c.args.input.now bits c.requires.judged
    (subst (λ x. AreValuesAt s.out.now x bits) c.as_slice.ensures c.in_ok-values.ensures)
