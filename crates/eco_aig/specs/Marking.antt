-- Marks at nodes.
use Rattle.std.specs.Prelude.{ℕ, Bool, true, false, List, [], ◌∷◌, set, slice_index_or, if◌then◌else◌}
use Rattle.eco_aig.specs.declared.edge.Edge.{Edge}
use Rattle.eco_aig.specs.declared.node.Node.{Node}
use Rattle.eco_aig.specs.Reached.{operands_at}

-- the marks, and a mark at the node of each of these edges
abbrev pub with_marks : List Bool → List Edge → List Bool
with_marks marks [] = marks
with_marks marks (e ∷ edges) = with_marks (set marks e.node true) edges

-- the marks, and where the node has one, marks at its operands
abbrev pub with_operands : List Node → ℕ → List Bool → List Bool
with_operands nodes k marks = if slice_index_or marks k false then with_marks marks (operands_at nodes k) else marks
