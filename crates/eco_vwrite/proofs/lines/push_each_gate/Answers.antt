use Rattle.std.proofs.Common.{◌≡◌, ◌++◌, ap, ◌∙◌, arith}
use Rattle.std.specs.List.{flat_map}
use Rattle.std.proofs.lemmas.Grind.{common_steps}
use Rattle.eco_meaning.specs.Circuit.{names}
use Rattle.eco_netlist.specs.Netlists.{named_gate}
use Rattle.eco_vwrite.specs.Written.{gate_line}
use Rattle.eco_vwrite.proofs.Turns.{gates_by_name}
use Rattle.eco_vwrite.proofs.lines.push_each_gate.Goals as goal

pub returns : goal.returns
returns c =
    let list = names c.args.netlist.now in
    let whole : c.loop-gate.text.items ≡ c.args.text.now.items ++ flat_map (λ gate. gate_line (named_gate list gate)) c.args.gates.now = grind (arith, common_steps) in
    record { ok = whole ∙ ap (λ more. c.args.text.now.items ++ more) (gates_by_name list c.args.gates.now) }
