use Rattle.std.proofs.Common.{◌≡◌, map, take}
use Rattle.eco_aiger.proofs.naming.named_ports.Given as goal

abbrev pub invariant-loop-symbol : goal.invariant-loop-symbol
invariant-loop-symbol l = l.ports.items ≡ map (λ s. s.port) (take l.symbol-index l.symbols)
