use Rattle.std.proofs.Common.{rules}
use Rattle.eco_vread.specs.Trees.{file_of}
use Rattle.eco_vread.proofs.Outcomes.{netlist_found, syntax_found, refused_found, no_tree_no_text, no_tree_unrefused, few_nets_found, few_terms_found, assigned_found}
use Rattle.eco_vread.proofs.reader.read.Goals as goal

pub returns-clause-ok : goal.returns-clause-ok
returns-clause-ok c =
    netlist_found c.args.rule c.args.bytes.now (file_of c.in_ok-tree.tree) c.in_ok-tree.ensures.text c.netlist_of.result c.netlist_of.ensures.ok

pub returns-clause-syntax : goal.returns-clause-syntax
returns-clause-syntax c =
    syntax_found c.args.rule c.args.bytes.now (file_of c.in_ok-tree.tree) c.netlist_of.result c.netlist_of.ensures.refused

pub returns-clause-refused : goal.returns-clause-refused
returns-clause-refused c =
    refused_found c.args.rule c.args.bytes.now (file_of c.in_ok-tree.tree) c.in_ok-tree.ensures.text c.netlist_of.result c.netlist_of.ensures.refused

pub returns-in_err-tree-clause-syntax : goal.returns-in_err-tree-clause-syntax
returns-in_err-tree-clause-syntax c = search (rules, no_tree_no_text c.args.bytes.now c.in_err-tree.field-0.0 c.in_err-tree.ensures.none)

pub returns-in_err-tree-clause-refused : goal.returns-in_err-tree-clause-refused
returns-in_err-tree-clause-refused c = search (rules, no_tree_unrefused c.args.rule c.args.bytes.now c.in_err-tree.field-0.0 c.in_err-tree.ensures.none)

pub returns-clause-few_nets : goal.returns-clause-few_nets
returns-clause-few_nets c = few_nets_found c.args.rule c.args.bytes.now c.netlist_of.result (returns-clause-ok c)

pub returns-clause-few_terms : goal.returns-clause-few_terms
returns-clause-few_terms c = few_terms_found c.args.rule c.args.bytes.now c.netlist_of.result (returns-clause-ok c)

pub returns-clause-assigned : goal.returns-clause-assigned
returns-clause-assigned c = assigned_found c.args.rule c.args.bytes.now c.netlist_of.result (returns-clause-ok c)
