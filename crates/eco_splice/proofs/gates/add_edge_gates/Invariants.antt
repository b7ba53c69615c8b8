use Rattle.std.proofs.Common.{◌≡◌, ◌++◌, take, map}
use Rattle.eco_splice.specs.GraphPatch.{edge_gate}
use Rattle.eco_splice.proofs.gates.add_edge_gates.Given as goal

abbrev pub invariant-loop-edge : goal.invariant-loop-edge
invariant-loop-edge l =
    l.draft ≡ record l.fn.draft {
      gates = l.fn.draft.gates ++ map (edge_gate l.aig l.nets.edges.items l.nets.names.items) (take l.edge-index l.edges);
    }
