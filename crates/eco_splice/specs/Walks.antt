-- Walks down a tree, from left to right.
use Rattle.std.specs.Prelude.{◌≡◌, ◌↔◌, ◌+◌, ◌<◌, ◌≤◌, Bool, false, List, [], ◌∷◌, ◌++◌, length, reverse}
use Rattle.eco_aig.specs.declared.edge.Edge.{Edge}
use Rattle.eco_aig.specs.declared.node.Node.{Node}
use Rattle.eco_lists.specs.Bits.{exactly_one}
use Rattle.eco_splice.specs.declared.join.Join.{Join}
use Rattle.eco_splice.specs.Trees.{Spans}

-- the edges are roots of trees whose leaves in order meet the operands; the sign is that of all of them
abbrev pub Covers : List Node → Join → List Edge → List Edge → Bool → Type 0
Covers nodes join [] operands sign = (operands ≡ []) × (sign ≡ false)
Covers nodes join (edge ∷ edges) operands sign =
    (own : List Edge) × (rest : List Edge) × (first : Bool) × (others : Bool) × Spans nodes join edge own first × Covers nodes join edges rest others
    × (operands ≡ own ++ rest) × (sign ≡ exactly_one first others)

-- a walk that has come to this edge, with the others waiting on a stack, goes on to those on the new stack, with the operands
-- that are left; where there was room for an operand for each edge, there is
pub record GoesOn (nodes : List Node) (join : Join) (edge : Edge) (old new operands left : List Edge) (turned later : Bool) : Type 0 where
  pub same : Covers nodes join (edge ∷ reverse old) operands turned ↔ Covers nodes join (reverse new) left later
  pub room : length old < length operands → length new ≤ length left
  pub nearer : length left + length left + length old + 1 < length operands + length operands + length new
