-- Edges of a graph, and their bits.
use Rattle.std.specs.Prelude.{ℕ, ◌-◌, Bool, false, not, if◌then◌else◌, List, map}
use Rattle.eco_aig.specs.declared.edge.Edge.{Edge}

-- the edge to the same node with the other sign
abbrev pub complement : Edge → Edge
complement e = record { node = e.node; complemented = not e.complemented }

-- the edge that is no complement, to the node of this number
abbrev pub plain : ℕ → Edge
plain node = record { node = node; complemented = false }

-- the bit of an edge where the nodes have these bits
abbrev pub value_of : (ℕ → Bool) → Edge → Bool
value_of w e = if e.complemented then not (w e.node) else w e.node

-- the number of the edge's node; of a complement what is left of it to the last word
abbrev pub word : Edge → ℕ
word e = if e.complemented then 18446744073709551615 - e.node else e.node

-- the edges' bits
abbrev pub bits_of : (ℕ → Bool) → List Edge → List Bool
bits_of w edges = map (value_of w) edges
