use Rattle.std.proofs.Common.{map, take}
use Rattle.eco_aiger.specs.Grammar.{literal_words}
use Rattle.eco_aiger.specs.Parts.{IsOfForm, AreRows}
use Rattle.eco_aiger.proofs.sections.literals.Given as goal

abbrev pub invariant-loop-index : goal.invariant-loop-index
invariant-loop-index l = AreRows literal_words (IsOfForm l.is_plain l.top) (map (λ line. line.now) (take l.index l.lines)) l.list.items
