-- Tables over the nodes of a graph and over targets, as the lines fill them.
use Rattle.std.specs.Prelude.{◌≡◌, ◌⊎◌, ℕ, ◌<◌, Bool, true, false, List, Option, None, Some, length, set, Contains, slice_get, slice_index_or}
use Rattle.eco_aig.specs.declared.edge.Edge.{Edge}
use Rattle.eco_aig.specs.Edges.{plain}
use Rattle.eco_splice.specs.Marking.{place_at}
use Rattle.eco_splice.specs.declared.line.Line.{Line}
use Rattle.eco_splice.specs.LineGates.{first_place}
use Rattle.eco_splice.specs.declared.places.Places.{Places}

-- the tables have the first place of each edge to so many nodes
pub record ArePlaced (nodes : ℕ) (places : Places) : Type 0 where
  pub plain : length places.plain.items ≡ nodes
  pub complemented : length places.complemented.items ≡ nodes
  pub within : (e : Edge) → Contains places.edges.items e → e.node < nodes
  pub first : (e : Edge) → e.node < nodes →
      place_at places.plain.items places.complemented.items e ≡ first_place places.edges.items e

-- a line of this target and edge leaves these marks: its target's is new, and its edge is the target's root
abbrev pub MarksTarget : List Edge → Edge → List Bool → List Bool → Option ℕ → Type 0
MarksTarget roots edge old new None = new ≡ old
MarksTarget roots edge old new (Some i) =
    (slice_get roots i ≡ Some edge) × (slice_get old i ≡ Some false) × (new ≡ set old i true)

-- the marks stand at the targets of so many first lines, each of which drives its own, and has its root
pub record AreMarked (roots : List Edge) (lines : List Line) (count : ℕ) (marks : List Bool) : Type 0 where
  pub len : length marks ≡ length roots
  pub own : (k : ℕ) (line : Line) (i : ℕ) → k < count → slice_get lines k ≡ Some line → line.target ≡ Some i →
      slice_get roots i ≡ Some line.edge
  pub marked : (k : ℕ) (line : Line) (i : ℕ) → k < count → slice_get lines k ≡ Some line → line.target ≡ Some i →
      slice_get marks i ≡ Some true
  pub once : (k j : ℕ) (line other : Line) (i : ℕ) → k < count → j < count → slice_get lines k ≡ Some line →
      slice_get lines j ≡ Some other → line.target ≡ Some i → other.target ≡ Some i → k ≡ j
  pub found : (i : ℕ) → slice_get marks i ≡ Some true →
      (k : ℕ) × (line : Line) × (k < count) × (slice_get lines k ≡ Some line) × (line.target ≡ Some i)

-- the node has a mark
abbrev pub HasMark : List Bool → ℕ → Type 0
HasMark marks node = slice_index_or marks node false ≡ true

-- just those nodes have a mark that had one, or whose plain edge is one of these
pub record AreMarkedFor (edges : List Edge) (old new : List Bool) : Type 0 where
  pub len : length new ≡ length old
  pub only : (node : ℕ) → HasMark new node → HasMark old node ⊎ Contains edges (plain node)
  pub kept : (node : ℕ) → HasMark old node → HasMark new node
  pub all : (node : ℕ) → node < length old → Contains edges (plain node) → HasMark new node

-- some line reads the plain edge to the node
abbrev pub IsRead : List Line → ℕ → Type 0
IsRead lines node = (line : Line) × Contains lines line × Contains line.operands.items (plain node)

-- just those of so many nodes have a mark whose plain edge some line reads
pub record AreReadMarks (nodes : ℕ) (lines : List Line) (marks : List Bool) : Type 0 where
  pub len : length marks ≡ nodes
  pub only : (node : ℕ) → HasMark marks node → IsRead lines node
  pub all : (node : ℕ) → node < nodes → IsRead lines node → HasMark marks node
