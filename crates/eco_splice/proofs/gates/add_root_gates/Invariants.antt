use Rattle.std.proofs.Common.{◌≡◌, ◌++◌, take, map}
use Rattle.std.specs.List.{zip}
use Rattle.eco_meaning.specs.Circuit.{names}
use Rattle.eco_netlist.specs.Netlists.{names_at}
use Rattle.eco_splice.specs.GraphPatch.{root_gate}
use Rattle.eco_splice.proofs.gates.add_root_gates.Given as goal

abbrev pub invariant-loop-place : goal.invariant-loop-place
invariant-loop-place l =
    l.draft ≡ record l.fn.draft {
      gates = l.fn.draft.gates
          ++ map (λ p. root_gate l.nets.edges.items l.nets.names.items p.0 p.1)
          (zip (names_at (names l.frame.f.now) (take l.place l.frame.targets.now)) (take l.place l.roots));
    }
