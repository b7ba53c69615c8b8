use Rattle.std.proofs.Common.{◌≡◌, map, length}
use Rattle.std.specs.List.{All}
use Rattle.eco_gates.specs.Gates.{IsTermBelow}
use Rattle.eco_netlist.specs.Drafted.{Extends}
use Rattle.eco_netlist.specs.Netlists.{named_term}
use Rattle.eco_netlist.proofs.draft.numbered_terms.Given as goal

abbrev pub invariant-loop-term : goal.invariant-loop-term
invariant-loop-term l = record {
  can : (goal.iterator-loop-term).can_next l.term-iterator;
  finite : (goal.iterator-loop-term).is_finite l.term-iterator;
  grown : Extends l.fn.names.keys l.names.keys;
  named : map (named_term l.names.keys) l.ins.items ≡ l.yielded;
  within : All (IsTermBelow (length l.names.keys)) l.ins.items;
}
