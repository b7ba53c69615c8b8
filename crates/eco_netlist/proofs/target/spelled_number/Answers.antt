use Rattle.std.proofs.Common.{◌<◌, take, arith}
use Rattle.eco_meaning.specs.Names.{number_of}
use Rattle.eco_netlist.proofs.NumeralLemmas.{short_number}
use Rattle.eco_netlist.proofs.target.spelled_number.Goals as goal

pub overflow_mul-number : goal.overflow_mul-number
overflow_mul-number c =
    let small : number_of (take c.loop-digit.digit-index c.args.digits.now) < 100000000 =
    short_number c.args.digits.now c.loop-digit.digit-index c.requires.digits (omega arith) c.requires.few in
    omega (arith, c.loop-digit.invariant)

pub overflow_add-number : goal.overflow_add-number
overflow_add-number c =
    let small : number_of (take c.loop-digit.digit-index c.args.digits.now) < 100000000 =
    short_number c.args.digits.now c.loop-digit.digit-index c.requires.digits (omega arith) c.requires.few in
    omega (arith, c.loop-digit.invariant)
