-- Numbers are read digit by digit.
use Rattle.std.proofs.Common.{◌≡◌, ℕ, ◌+◌, ◌-◌, ◌*◌, ◌<◌, ◌≤◌, true, List, length, take, get_or, refl, ap, sym, ◌∙◌, arith}
use Rattle.std.specs.List.{list_all}
use Rattle.std.proofs.lemmas.Bool.{false≢true, true_from_ne_false}
use Rattle.std.proofs.lemmas.List.{take_all}
use Rattle.std.proofs.lemmas.List.Folds.{list_all_at}
use Rattle.std.proofs.lemmas.List.Sums.{fold_more}
use Rattle.eco_meaning.proofs.Decimals.{digit_on, front_smaller}
use Rattle.eco_meaning.specs.Names.{is_digit, number_of}
use Rattle.eco_text.specs.Digits.{HasDigit, IsSpelled}

-- each digit of a number may be read behind those before it
pub spelled_has_digit : (most : ℕ) (digits : List ℕ) (i number byte whole : ℕ) → i < length digits → byte ≡ get_or digits i 0 → number ≡ number_of (take i digits) → IsSpelled most digits whole → HasDigit most number byte (10 * number + (byte - 48))
spelled_has_digit most digits i number byte whole within is so_far spelled =
    let more : number_of (take (i + 1) digits) ≡ digit_on (number_of (take i digits)) (get_or digits i 0) = fold_more digit_on 0 digits i 0 within in
    let smaller = front_smaller digits (i + 1) in
    let value = spelled.value in
    let limit = spelled.limit in
    record {
      digit = ap is_digit is ∙ true_from_ne_false (is_digit (get_or digits i 0)) (λ e. false≢true (sym (list_all_at is_digit digits i 0 within e) ∙ spelled.decimal));
      value = refl;
      limit = rw (is, so_far) (omega arith);
    }

-- all digits were read
pub all_read : (most : ℕ) (digits : List ℕ) (i number : ℕ) → length digits ≤ i → 0 < length digits → list_all is_digit (take i digits) ≡ true → number ≡ number_of (take i digits) → number ≤ most → IsSpelled most digits number
all_read most digits i number all some decimal value limit =
    let whole = take_all i digits all in
    record {
      some = some;
      decimal = sym (ap (list_all is_digit) whole) ∙ decimal;
      value = sym (ap number_of whole) ∙ sym value;
      limit = limit;
    }
