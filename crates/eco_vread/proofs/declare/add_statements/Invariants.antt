use Rattle.std.proofs.Common.{◌≡◌, ◌+◌, true, map}
use Rattle.std.specs.List.{list_all}
use Rattle.std.specs.Vec.Iter.{into_iter_items}
use Rattle.eco_vread.specs.Grammar.{is_proper_statement}
use Rattle.eco_vread.specs.Trees.{statement_of}
use Rattle.eco_vread.specs.Declaring.{with_statements, all_numbered_nets}
use Rattle.eco_vread.proofs.declare.add_statements.Given as goal

-- with what the statements declare that are left it has what all do
abbrev pub invariant-loop-item : goal.invariant-loop-item
invariant-loop-item l = record {
  declared : with_statements l.draft l.prefix.bytes.now l.count (map statement_of (into_iter_items l.item-iterator))
      ≡ with_statements l.initial.draft l.prefix.bytes.now 0 (map statement_of l.fn.items.items);
  count : l.count + all_numbered_nets (map statement_of (into_iter_items l.item-iterator))
      ≡ all_numbered_nets (map statement_of l.fn.items.items);
  proper : list_all (λ i. is_proper_statement (statement_of i)) (into_iter_items l.item-iterator) ≡ true;
}
