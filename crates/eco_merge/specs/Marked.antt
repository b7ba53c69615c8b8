-- Nodes and entries that have marks, one bit for each node.
use Rattle.std.specs.Prelude.{◌&&◌, ℕ, Bool, true, List, Option, None, Some}
use Rattle.eco_lists.specs.Bits.{bit_at}
use Rattle.eco_merge.specs.declared.loose.Loose.{Loose}

-- the other node has one, if there is one
abbrev pub is_other_marked : List Bool → Option ℕ → Bool
is_other_marked marks None = true
is_other_marked marks (Some m) = bit_at marks m

-- the entry's nodes have marks
abbrev pub are_marked : List Bool → Loose → Bool
are_marked marks entry = bit_at marks entry.node && is_other_marked marks entry.other
