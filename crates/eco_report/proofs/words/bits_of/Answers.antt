use Rattle.eco_report.proofs.Fields.{not_bits}
use Rattle.eco_report.proofs.words.bits_of.Goals as goal

pub returns-in-None : goal.returns-in-None
returns-in-None c = λ bits e. not_bits c.args.digits.now c.loop-digit.digit-index 0 bits c.loop-digit-test.true e c.in-None.ensures
