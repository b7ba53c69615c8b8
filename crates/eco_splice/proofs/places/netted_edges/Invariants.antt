use Rattle.std.proofs.Common.{◌≡◌, ◌++◌, take, map}
use Rattle.eco_aig.specs.Edges.{plain}
use Rattle.eco_aig.specs.Graph.{inputs_of}
use Rattle.eco_splice.specs.declared.line.Line.{Line}
use Rattle.eco_splice.proofs.places.netted_edges.Given as goal

abbrev pub invariant-loop-line : goal.invariant-loop-line
invariant-loop-line l = l.edges.items ≡ map plain (inputs_of l.aig) ++ map (λ (line : Line). line.edge) (take l.line-index l.lines)
