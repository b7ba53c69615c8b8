-- Literals by the numbers of nets.
use Rattle.std.specs.Prelude.{List, slice_index_or}
use Rattle.eco_gates.specs.declared.gate.Term.{Term}
use Rattle.eco_gates.specs.declared.gate.Term.TheVariants.{Zero, One, Net}
use Rattle.eco_gates.specs.GateValue.{GateValue}
use Rattle.eco_trace.specs.declared.clause.Lit.{Lit}
use Rattle.eco_trace.specs.Clauses.{complement}
use Rattle.eco_clauses.specs.Listing.{constant}

-- the literal of what a gate's input reads, where the nets have these literals
abbrev pub term_literal : List Lit → Term → Lit
term_literal lits Zero = complement constant
term_literal lits One = constant
term_literal lits (Net net) = slice_index_or lits net.0 constant

-- the literal of the net that a gate drives
abbrev pub out_literal : List Lit → GateValue → Lit
out_literal lits g = slice_index_or lits g.out.0 constant
