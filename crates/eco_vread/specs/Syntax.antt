-- The syntax tree of a text: one module with its declarations and its gates (IEEE 1364-2005, annex A, of which this
-- is a part).
use Rattle.std.specs.Prelude.{ℕ, Bool, List, Option, drop, if◌then◌else◌}
use Rattle.eco_meaning.specs.declared.kind.Kind.{Kind}
use Rattle.eco_vread.specs.declared.tree.Direction.{Direction}
use Rattle.eco_vread.specs.declared.tree.Operator.{Operator}

-- an identifier as it is written: an escaped one's text begins with its backslash
pub record Identifier : Type 0 where
  pub escaped : Bool
  pub text : List ℕ

-- what an identifier names: an escaped one's text without the backslash
abbrev pub named : Bool → List ℕ → List ℕ
named escaped text = if escaped then drop 1 text else text

abbrev pub name_of : Identifier → List ℕ
name_of i = named i.escaped i.text

-- what an input of a gate is connected to: `1'b0`, `1'b1` or a net
pub data Term : Type 0 where
  low : Term
  high : Term
  net : Identifier → Term

-- an instance of a gate: its own name, if it has one, its outputs, and its inputs
pub record Instance : Type 0 where
  pub label : Option Identifier
  pub outputs : List Identifier
  pub inputs : List Term

-- an expression: a net or a constant, the inverse of an operand, two operands with an operator between, or an
-- expression in brackets
pub data Expression : Type 0 where
  term : Term → Expression
  inverse : Expression → Expression
  binary : Operator → Expression → Expression → Expression
  bracketed : Expression → Expression

-- an assignment of an expression to a net
pub record Assignment : Type 0 where
  pub name : Identifier
  pub value : Expression

-- a statement of a module: a declaration of inputs or outputs, with or without `wire`, a declaration of wires,
-- gates of one kind, or assignments
pub data Statement : Type 0 where
  input : Bool → List Identifier → Statement
  output : Bool → List Identifier → Statement
  wire : List Identifier → Statement
  gates : Kind → List Instance → Statement
  assign : List Assignment → Statement

-- a port of a header: its direction, with or without `wire`, if one stands before its name
pub record Port : Type 0 where
  pub direction : Option (Direction × Bool)
  pub name : Identifier

-- a file: the module's name, its header's ports, if it has brackets, and its statements
pub record File : Type 0 where
  pub title : Identifier
  pub header : Option (List Port)
  pub statements : List Statement
