-- Words of numbers are read as those numbers.
use Rattle.std.proofs.Common.{◌≡◌, ℕ, ◌<◌, ◌^◌, List, Option, Some, None, Result, Ok, Err, IfNone, decimal, sym, ap, ◌∙◌, subst, arith}
use Rattle.std.specs.Str.{IsUtf8}
use Rattle.std.specs.Str.Parse.{ParsesUnsigned}
use Rattle.std.proofs.lemmas.Fmt.{parse-decimal, IsAscii-decimal, decimal_injective}
use Rattle.std.proofs.lemmas.Str.{IsUtf8-from_ascii}
use Rattle.eco_text.specs.Numbers.{IsNumberUpTo}

-- the word of a number is text
pub number_utf8 : (word : List ℕ) (n : ℕ) → n < 2 ^ 64 → word ≡ decimal n → IsUtf8 word
number_utf8 word n small is = subst IsUtf8 (sym is) (IsUtf8-from_ascii (decimal n) (IsAscii-decimal n small))

-- where nothing is parsed there is no number
pub none_parsed : {E : Type 0} (word : List ℕ) (r : Result ℕ E) (e : E) → r ≡ Err e → ParsesUnsigned 64 10 word r → (n : ℕ) → n < 2 ^ 64 → word ≡ decimal n → ⊥
none_parsed word r e is h n small number = let ok : r ≡ Ok n = parse-decimal 64 n word r small small number h in cc

-- where the number that is parsed isn't the word's, none is
pub none_other : {E : Type 0} (word : List ℕ) (r : Result ℕ E) (m : ℕ) (answer : Option ℕ) → r ≡ Ok m → ParsesUnsigned 64 10 word r → IfNone answer (word ≡ decimal m → ⊥) → IfNone answer ((n : ℕ) → n < 2 ^ 64 → word ≡ decimal n → ⊥)
none_other word r m None is h refuted = λ n small number.
    let ok : r ≡ Ok n = parse-decimal 64 n word r small small number h in
    let same : n ≡ m = cc in
    refuted (number ∙ ap decimal same)
none_other word r m (Some k) is h refuted = tt

-- a word is one number
pub number_once : (most : ℕ) (word : List ℕ) (n m : ℕ) → most < 2 ^ 64 → IsNumberUpTo most word n → IsNumberUpTo most word m → n ≡ m
number_once most word n m small is other =
    let first = is.within in
    let second = other.within in
    decimal_injective n m (omega (arith, small, first)) (omega (arith, small, second)) (sym is.text ∙ other.text)

-- where the word is a number beyond the given one, it is none up to that
pub not_up_to : (most number : ℕ) (word : List ℕ) → word ≡ decimal number → number < 2 ^ 64 → most < number → (n : ℕ) → IsNumberUpTo most word n → ⊥
not_up_to most number word is small beyond n other =
    let within = other.within in
    let same = decimal_injective n number (omega (arith, small, beyond, within)) small (sym other.text ∙ is) in
    omega (arith, beyond, within, same)
