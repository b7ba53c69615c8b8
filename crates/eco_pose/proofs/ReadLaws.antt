-- How many literals are read.
use Rattle.std.proofs.Common.{◌≡◌, ℕ, ◌+◌, List, length, ◌∙◌, ap}
use Rattle.std.proofs.lemmas.List.{length-map}
use Rattle.eco_aig.specs.declared.edge.Edge.{Edge}
use Rattle.eco_aig.specs.declared.node.Node.{Node}
use Rattle.eco_tseitin.specs.Encoding.{literal_of}
use Rattle.eco_tseitin.specs.declared.sides.OneSide.{OneSide}
use Rattle.eco_tseitin.specs.declared.sides.TwoSides.{TwoSides}
use Rattle.eco_tseitin.specs.declared.sides.EncodedSide.{EncodedSide}
use Rattle.eco_tseitin.specs.Sides.{IsOneSide}
use Rattle.eco_tseitin.specs.Encoded.{IsEncoded}
use Rattle.eco_trace.specs.Adding.{shifted}
use Rattle.eco_tseitin.specs.Joined.{IsJoined}

-- a side has a literal for each edge of its inputs
pub one_reads : (graph : List Node) (inputs asserted : List Edge) (side : OneSide) → IsOneSide graph inputs asserted side → length side.inputs.items ≡ length inputs
one_reads graph inputs asserted side is = ap length is.readers ∙ length-map inputs (literal_of is.side.nodes)

pub encoded_reads : (graph : List Node) (inputs base asserted : List Edge) (side : EncodedSide) → IsEncoded graph inputs base asserted side → length side.inputs.items ≡ length inputs
encoded_reads graph inputs base asserted side is = ap length is.inputs_are ∙ length-map inputs (literal_of is.side.nodes)

-- and two joined sides have as many as they had alone
pub joined_reads : (first second : EncodedSide) (sides : TwoSides) (count : ℕ) → IsJoined first second sides → length first.inputs.items ≡ count → length second.inputs.items ≡ count →
    (length sides.one.items ≡ count) × (length sides.other.items ≡ count)
joined_reads first second sides count is one other = (
  ap length is.one_reads ∙ one,
  ap length is.other_reads ∙ length-map second.inputs.items (shifted (first.cnf.vars + length first.base.items)) ∙ other,
)
