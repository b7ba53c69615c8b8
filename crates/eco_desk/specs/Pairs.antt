-- Two encoded sides of one graph, posed as one question.
use Rattle.std.specs.Prelude.{◌≡◌, List, length}
use Rattle.eco_aig.specs.declared.edge.Edge.{Edge}
use Rattle.eco_aig.specs.declared.node.Node.{Node}
use Rattle.eco_tseitin.specs.declared.sides.EncodedSide.{EncodedSide}
use Rattle.eco_tseitin.specs.declared.sides.TwoSides.{TwoSides}
use Rattle.eco_tseitin.specs.Encoded.{IsEncoded}
use Rattle.eco_tseitin.specs.Joined.{IsJoined}
use Rattle.eco_tseitin.specs.Sides.{AreTwoParts}
use Rattle.eco_pose.specs.Posing.{PosedValue, posed_of}

-- the question is posed by two sides over the graph, in which first the one edges and then the other ones are asserted, and
-- which are joined at the base
pub record IsPairOf (graph : List Node) (inputs base first second : List Edge) (posed : PosedValue) : Type 0 where
  pub one : EncodedSide
  pub other : EncodedSide
  pub sides : TwoSides
  pub one_encoded : IsEncoded graph inputs base first one
  pub other_encoded : IsEncoded graph inputs base second other
  pub one_base : length one.base.items ≡ length base
  pub parts : AreTwoParts one other sides
  pub joined : IsJoined one other sides
  pub is : posed ≡ posed_of sides
