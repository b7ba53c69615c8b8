-- Decimal texts of numbers, read back.
use Rattle.std.proofs.Common.{◌≡◌, ℕ, ◌+◌, ◌-◌, ◌%◌, ◌^◌, ◌<◌, Bool, true, false, List, [], ◌∷◌, ◌++◌, length, take, refl, ap, ◌∙◌, arith}
use Rattle.std.specs.Prelude.{decimal, nat_eq, codes}
use Rattle.std.specs.List.{list_any}
use Rattle.std.proofs.lemmas.Bool.{ne_eqb, or_from}
use Rattle.std.proofs.lemmas.Fmt.{decimal_by_steps}
use Rattle.std.proofs.lemmas.List.{length-append, take_at}
use Rattle.std.proofs.lemmas.List.Folds.{list_any-append}
use Rattle.std.proofs.Math.Bool.{or-true}

-- no digit is an `n`
abbrev pub has_n : List ℕ → Bool
has_n bytes = list_any (nat_eq 110) bytes

pub has_n-decimal : (n : ℕ) → n < 2 ^ 64 → has_n (decimal n) ≡ false
has_n-decimal n lt =
    decimal_by_steps (λ m ds. has_n ds ≡ false)
    (λ m one. or_from (nat_eq 110 (48 + m)) false (ne_eqb 110 (48 + m) (λ e. omega arith)) refl)
    (λ m ds big rest.
    list_any-append (nat_eq 110) ds ((48 + m % 10) ∷ [])
    ∙ or_from (has_n ds) (has_n ((48 + m % 10) ∷ [])) rest (or_from (nat_eq 110 (48 + m % 10)) false (ne_eqb 110 (48 + m % 10) (λ e. omega arith)) refl))
    n lt

pub has_n-complement : (ds : List ℕ) → has_n (ds ++ codes "n") ≡ true
has_n-complement ds = list_any-append (nat_eq 110) ds (codes "n") ∙ or-true (has_n ds)

-- the text before the last byte
abbrev pub front_of : List ℕ → List ℕ
front_of bytes = take (length bytes - 1) bytes

pub front-complement : (ds : List ℕ) → front_of (ds ++ codes "n") ≡ ds
front-complement ds =
    let long = length-append ds (codes "n") in
    let count : length (ds ++ codes "n") - 1 ≡ length ds = omega arith in
    ap (λ k. take k (ds ++ codes "n")) count ∙ take_at ds (codes "n") (length ds) refl
