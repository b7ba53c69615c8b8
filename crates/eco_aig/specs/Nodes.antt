-- How nodes are fed to a hash.
use Rattle.std.specs.Hash as fed
use Rattle.std.specs.Prelude.{ℕ, List, ◌++◌}
use Rattle.eco_aig.specs.declared.node.Node.{Node}
use Rattle.eco_aig.specs.declared.node.Node.TheVariants.{Zero, Input, And}
use Rattle.eco_aig.specs.Edges.{word}

-- a word an operand; the constant and the inputs have one
abbrev pub words : Node → List (List ℕ)
words Zero = fed.u64 0
words (Input number) = fed.u64 number
words (And first second) = fed.u64 (word first) ++ fed.u64 (word second)
