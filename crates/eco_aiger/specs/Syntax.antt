-- The syntax tree of a text in ASCII AIGER without latches.
use Rattle.std.specs.Prelude.{ℕ, List}
use Rattle.eco_aiger.specs.declared.tree.AndLine.{AndLine}

-- a symbol: the place of the port that it names, and the name as it is written; the ports are the inputs, then the
-- outputs
pub record Symbol : Type 0 where
  pub port : ℕ
  pub text : List ℕ

-- a file: the greatest variable that it may use, the literals of its inputs and of its outputs, its and-lines, and
-- its symbols, each list in the order of the text
pub record File : Type 0 where
  pub top : ℕ
  pub inputs : List ℕ
  pub outputs : List ℕ
  pub ands : List AndLine
  pub symbols : List Symbol
