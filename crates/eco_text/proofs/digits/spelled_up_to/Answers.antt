use Rattle.std.proofs.Common.{arith, refl}
use Rattle.std.proofs.lemmas.Bool.Decides.{nat_tests}
use Rattle.eco_text.proofs.DigitLaws.{spelled_has_digit, all_read}
use Rattle.eco_text.proofs.digits.spelled_up_to.Goals as goal

pub returns-in_err-number-clause-none : goal.returns-in_err-number-clause-none
returns-in_err-number-clause-none c =
    rw c.from_residual.ensures
    (λ number is. c.in_err-number.ensures.none _ (spelled_has_digit c.args.most c.args.digits.now c.loop-digit.digit-index c.loop-digit.number _ number (omega arith) refl c.loop-digit.invariant.value is))

pub returns-clause-some : goal.returns-clause-some
returns-clause-some c =
    all_read c.args.most c.args.digits.now c.loop-digit.digit-index c.loop-digit.number (omega arith) (grind (arith, nat_tests)) c.loop-digit.invariant.decimal c.loop-digit.invariant.value c.loop-digit.invariant.limit
