-- Netlists with the same ports, of which the second has no target, are one and what may be asked of it.
use Rattle.std.proofs.Common.{refl}
use Rattle.test_graphs.proofs.miters.is_goal.Goals as goal

pub returns-then-have_same_ports : goal.returns-then-have_same_ports
returns-then-have_same_ports c = λ none.
    let same = c.if-have_same_ports.ensures.0 refl in
    record {
      checked = c.nets.ensures.checked;
      inputs = same.inputs;
      outputs = same.outputs;
      closed = c.is_closed.ensures.0 none;
      care = λ care is. cc;
    }
