-- What the values of the reader of gates stand for.
use Rattle.std.specs.Prelude.{List, map}
use Rattle.eco_vread.specs.declared.gates.Connection.{Connection}
use Rattle.eco_vread.specs.declared.gates.Connection.TheVariants.{Output, Input}
use Rattle.eco_vread.specs.declared.gates.Terminals.{Terminals}
use Rattle.eco_vread.specs.Syntax.{Identifier, Term}
use Rattle.eco_tokens.specs.Said.{Said}
use Rattle.eco_vread.specs.declared.cursor.Cursor.{Cursor}
use Rattle.eco_vread.specs.declared.tree.Ident.{Ident}
use Rattle.eco_vread.specs.declared.tree.Terminal.{Terminal}
use Rattle.eco_vread.specs.Views.{identifier_of, term_of}
use Rattle.eco_vread.specs.Trees.{left}
use Rattle.eco_vread.specs.Fronts.{Step}
use Rattle.eco_vread.specs.Fronts.Step.{more, last}

abbrev pub step_of : Connection → Step Identifier Term
step_of (Output i) = more (identifier_of i)
step_of (Input t) = last (term_of t)

-- outputs, an input, and the tokens behind them
abbrev pub driven_of : List Ident → Terminal → Cursor → (List Identifier × Term) × List Said
driven_of outputs input next = ((map identifier_of outputs, term_of input), left next)

abbrev pub terminals_of : Terminals → List Identifier × List Term
terminals_of t = (map identifier_of t.outputs.items, map term_of t.inputs.items)
