use Rattle.std.proofs.Common.{◌≡◌, take, map, length}
use Rattle.std.specs.Prelude.{All}
use Rattle.eco_gates.specs.Gates.{IsTermBelow}
use Rattle.eco_netlist.specs.Numbering.{term_at}
use Rattle.eco_netlist.proofs.placing.placed_terms.Given as goal

abbrev pub invariant-loop-term : goal.invariant-loop-term
invariant-loop-term l = record {
  placed : map (term_at l.numbering.nets) l.ins.items ≡ take l.term-index l.terms;
  within : All (IsTermBelow (length l.numbering.nets)) l.ins.items;
}
