use Rattle.eco_vread.proofs.Declarations.{statements_proper}
use Rattle.eco_vread.specs.Grammar.{is_proper_header, is_proper_statement}
use Rattle.std.specs.List.{list_all}
use Rattle.std.proofs.Common.{map, refl}
use Rattle.eco_lists.proofs.Tests.{both}
use Rattle.eco_vread.specs.Trees.{header_of, statement_of}
use Rattle.eco_vread.proofs.declare.add_module.Goals as goal

pub add_statements-requires-clause-proper : goal.add_statements-requires-clause-proper
add_statements-requires-clause-proper c =
    statements_proper c.args.tree.statements.items c.args.tree.statements.items refl (both (is_proper_header (header_of c.args.tree.header)) (list_all is_proper_statement (map statement_of c.args.tree.statements.items)) c.requires.proper).1
