use Rattle.std.proofs.Common.{◌≡◌, take}
use Rattle.eco_meaning.specs.Names.{number_of}
use Rattle.eco_netlist.proofs.target.spelled_number.Given as goal

abbrev pub invariant-loop-digit : goal.invariant-loop-digit
invariant-loop-digit l = l.number ≡ number_of (take l.digit-index l.digits)
