-- Words of literals and of places are numbers.
use Rattle.std.proofs.Common.{◌≡◌, ℕ, ◌/◌, ◌%◌, ◌<◌, ◌≤◌, List, subst, arith}
use Rattle.eco_text.specs.Numbers.{IsNumberUpTo}
use Rattle.eco_text.proofs.NumberLaws.{number_once}
use Rattle.eco_aiger.specs.Grammar.{limit}
use Rattle.eco_aiger.specs.Parts.{IsLiteralWord, IsPlainWord, IsPlaceBelow}

-- a literal's word is its number
pub literal_number : (top : ℕ) (word : List ℕ) (n : ℕ) → IsLiteralWord top word n → IsNumberUpTo limit word n
literal_number top word n is = record { text = is.text; within = is.literal_is.small }

-- a plain literal's word is a literal's
pub plain_literal_word : (top : ℕ) (word : List ℕ) (n : ℕ) → IsPlainWord top word n → IsLiteralWord top word n
plain_literal_word top word n is = record { text = is.text; literal_is = is.plain_is.literal_is }

-- where the word is a number beyond the greatest literal, it is no literal
pub not_literal : (top number : ℕ) (word : List ℕ) → IsNumberUpTo limit word number → top < number / 2 → (n : ℕ) → IsLiteralWord top word n → ⊥
not_literal top number word is beyond n literal =
    let same = number_once limit word n number (omega arith) (literal_number top word n literal) is in
    let within = literal.literal_is.within in
    omega arith

-- where the word is a literal that can't define a variable, it is no plain one
pub not_plain : (top number : ℕ) (word : List ℕ) → IsLiteralWord top word number → (((number % 2 ≡ 0) × (2 ≤ number)) → ⊥) → (n : ℕ) → IsPlainWord top word n → ⊥
not_plain top number word is refuted n plain =
    let same = number_once limit word n number (omega arith) (literal_number top word n (plain_literal_word top word n plain)) (literal_number top word number is) in
    refuted (subst (λ m. (m % 2 ≡ 0) × (2 ≤ m)) same (plain.plain_is.even, plain.plain_is.least))

-- where the word is a number that isn't below the count, it is no place below it
pub not_below : (count number : ℕ) (word : List ℕ) → IsNumberUpTo limit word number → count ≤ number → (k : ℕ) → IsPlaceBelow count word k → ⊥
not_below count number word is beyond k place =
    let same = number_once limit word k number (omega arith) place.number_is is in
    let below = place.below in
    omega arith
