use Rattle.std.proofs.Common.{◌≡◌, map, take}
use Rattle.eco_vread.specs.Meaning.{operand_of}
use Rattle.eco_vread.specs.Views.{term_of}
use Rattle.eco_vread.proofs.named.operands.Given as goal

abbrev pub invariant-loop-terminal : goal.invariant-loop-terminal
invariant-loop-terminal l = l.operands.items ≡ map (λ t. operand_of (term_of t)) (take l.terminal-index l.terminals)
