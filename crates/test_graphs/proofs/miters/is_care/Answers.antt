-- The cared netlist is one of f where it could be its specification and has one output.
use Rattle.std.proofs.Common.{length, refl, ◌∙◌, ap, sym}
use Rattle.std.proofs.lemmas.Bool.{eqb-true}
use Rattle.std.proofs.lemmas.List.{length-map}
use Rattle.eco_meaning.specs.Circuit.{names}
use Rattle.eco_gates.specs.declared.gate.NetId.{NetId}
use Rattle.eco_netlist.specs.Netlists.{name_at}
use Rattle.test_graphs.proofs.miters.is_care.Goals as goal

pub returns-then-is_goal : goal.returns-then-is_goal
returns-then-is_goal c = λ one.
    let is = c.if-is_goal.ensures refl in
    let nets = c.outputs.result.now in
    record {
      checked = is.checked;
      inputs = is.inputs;
      one_output = sym (ap length c.outputs.ensures.named) ∙ length-map nets (λ (net : NetId). name_at (names c.args.care.now) net.0) ∙ eqb-true (length nets) 1 one;
      closed = is.closed;
    }
