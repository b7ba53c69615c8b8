-- What identifiers and terminals stand for.
use Rattle.std.specs.Prelude.{List, map}
use Rattle.eco_vread.specs.declared.tree.Ident.{Ident}
use Rattle.eco_vread.specs.declared.tree.Terminal.{Terminal}
use Rattle.eco_vread.specs.declared.tree.Terminal.TheVariants.{Low, High, Net}
use Rattle.eco_vread.specs.Syntax.{Identifier, Term}
use Rattle.eco_vread.specs.Syntax.Term.{low, high, net}

abbrev pub identifier_of : Ident → Identifier
identifier_of i = record { escaped = i.escaped; text = i.text.now }

abbrev pub identifiers_of : List Ident → List Identifier
identifiers_of list = map identifier_of list

abbrev pub term_of : Terminal → Term
term_of Low = low
term_of High = high
term_of (Net i) = net (identifier_of i)
