-- The number that decimal digits spell, digit by digit.
use Rattle.std.proofs.Common.{◌≡◌, ℕ, ◌+◌, ◌-◌, ◌*◌, ◌≤◌, List, [], ◌∷◌, take, drop, fold, ap, sym, ◌∙◌, arith}
use Rattle.std.proofs.lemmas.List.{take-append-drop}
use Rattle.std.proofs.lemmas.List.Sums.{fold-append}
use Rattle.eco_meaning.specs.Names.{number_of}

-- the number with one more digit behind it
abbrev pub digit_on : ℕ → ℕ → ℕ
digit_on number digit = 10 * number + (digit - 48)

-- more digits make no smaller number
pub fold_grows : (digits : List ℕ) (number : ℕ) → number ≤ fold digit_on number digits
fold_grows [] number = omega arith
fold_grows (d ∷ digits) number =
    let rest = fold_grows digits (digit_on number d) in
    omega arith

pub front_smaller : (digits : List ℕ) (i : ℕ) → number_of (take i digits) ≤ number_of digits
front_smaller digits i =
    let whole : number_of digits ≡ fold digit_on (number_of (take i digits)) (drop i digits) =
    ap number_of (sym (take-append-drop i digits)) ∙ fold-append digit_on 0 (take i digits) (drop i digits) in
    let grows = fold_grows (drop i digits) (number_of (take i digits)) in
    omega arith
