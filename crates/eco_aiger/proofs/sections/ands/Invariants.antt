use Rattle.std.proofs.Common.{map, take}
use Rattle.eco_aiger.specs.Grammar.{and_words, IsAnd}
use Rattle.eco_aiger.specs.Parts.{AreRows}
use Rattle.eco_aiger.proofs.sections.ands.Given as goal

abbrev pub invariant-loop-index : goal.invariant-loop-index
invariant-loop-index l = AreRows and_words (IsAnd l.top) (map (λ line. line.now) (take l.index l.lines)) l.list.items
