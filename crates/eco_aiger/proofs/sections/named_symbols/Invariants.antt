use Rattle.std.proofs.Common.{◌≡◌, map, take}
use Rattle.eco_aiger.specs.Parts.{symbol_of, AreSymbols}
use Rattle.eco_aiger.proofs.sections.named_symbols.Given as goal

abbrev pub invariant-loop-index : goal.invariant-loop-index
invariant-loop-index l = record {
  are : AreSymbols l.inputs l.outputs (map (λ line. line.now) (take l.index l.lines)) (map symbol_of l.list.items);
  named : l.named.keys ≡ map (λ s. s.port) l.list.items;
}
