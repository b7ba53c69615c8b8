-- Marks of nodes.
use Rattle.std.specs.Prelude.{ℕ, List, slice_get, unwrap_or}

-- what marks are seen as: the one that all nodes have at first, and those of the first nodes, in order
pub record MarksValue (M : Type 0) : Type 0 where
  pub first : M
  pub marks : List M

-- the mark of the node of this number
abbrev pub mark_at : {M : Type 0} → MarksValue M → ℕ → M
mark_at value node = unwrap_or (slice_get value.marks node) value.first
