use Rattle.std.proofs.Common.{◌≡◌, map, take}
use Rattle.eco_report.specs.Texts.{bit_digit}
use Rattle.eco_report.proofs.words.bits_of.Given as goal

abbrev pub invariant-loop-digit : goal.invariant-loop-digit
invariant-loop-digit l = take l.digit-index l.digits ≡ map bit_digit l.bits.items
