use Rattle.std.proofs.Common.{◌≡◌, ◌++◌, map, take}
use Rattle.eco_report.specs.Texts.{bit_digit}
use Rattle.eco_cli.proofs.printing.add_bits.Given as goal

abbrev pub invariant-loop-bit : goal.invariant-loop-bit
invariant-loop-bit l = l.text.items ≡ l.fn.text.items ++ map bit_digit (take l.bit-index l.bits)
