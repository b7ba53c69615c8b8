-- Numbered names: they are names, differ where their numbers do, and begin with the prefix.
use Rattle.std.proofs.Common.{◌≡◌, ℕ, ◌+◌, ◌%◌, ◌^◌, ◌<◌, true, List, [], ◌∷◌, ◌++◌, length, refl, ◌∙◌, ap, arith, ◌-◌, ◌*◌}
use Rattle.std.specs.Fmt.{decimal}
use Rattle.std.specs.List.{list_all, starts_with, Contains}
use Rattle.std.specs.Prelude.{nat_eq}
use Rattle.std.specs.Str.{bytes_eq}
use Rattle.std.proofs.lemmas.Slice.Eq.{bytes_eq-Decides}
use Rattle.std.proofs.lemmas.Fmt.{decimal_by_steps, decimal_nonempty, decimal_injective}
use Rattle.std.proofs.lemmas.List.{append_cancel_left, length-append, take_at}
use Rattle.std.proofs.lemmas.List.Folds.{list_all-append}
use Rattle.std.proofs.lemmas.Bool.{and_from, le-leb, not_from_false, ne_eqb}
use Rattle.std.proofs.lemmas.List.Sums.{fold-append}
use Rattle.eco_meaning.specs.Names.{is_name, is_printing, number_of}
use Rattle.eco_text.specs.Prefix.{IsFreshPrefix, numbered}

-- decimal digits print
printing_digit : (n : ℕ) → n < 10 → is_printing (48 + n) ≡ true
printing_digit n lt = and_from _ _ (le-leb 33 (48 + n) (omega arith)) (le-leb (48 + n) 126 (omega arith))

printing-decimal : (n : ℕ) → n < 2 ^ 64 → list_all is_printing (decimal n) ≡ true
printing-decimal n lt =
    decimal_by_steps (λ m ds. list_all is_printing ds ≡ true)
    (λ m one. and_from _ _ (printing_digit m one) refl)
    (λ m ds big rest. list_all-append is_printing ds ((48 + m % 10) ∷ []) ∙ and_from _ _ rest (and_from _ _ (printing_digit (m % 10) (omega arith)) refl))
    n lt

-- a numbered name is one
pub is_name-numbered : (prefix : List ℕ) (number : ℕ) → list_all is_printing prefix ≡ true → number < 2 ^ 64 → is_name (numbered prefix number) ≡ true
is_name-numbered prefix number printing lt =
    let some = decimal_nonempty number lt in
    and_from _ _ (not_from_false _ (ne_eqb (length (numbered prefix number)) 0 (λ e. omega (arith, length-append prefix (decimal number)))))
    (list_all-append is_printing prefix (decimal number) ∙ and_from _ _ printing (printing-decimal number lt))

-- two numbers have two names
pub numbered-injective : (prefix : List ℕ) (m n : ℕ) → m < 2 ^ 64 → n < 2 ^ 64 → numbered prefix m ≡ numbered prefix n → m ≡ n
numbered-injective prefix m n lt_m lt_n e = decimal_injective m n lt_m lt_n (append_cancel_left prefix (decimal m) (decimal n) e)

-- the bytes of a prefix begin what they begin
starts_itself : (prefix rest : List ℕ) → starts_with nat_eq (prefix ++ rest) prefix ≡ true
starts_itself prefix rest =
    ap (bytes_eq prefix) (take_at prefix rest (length prefix) refl) ∙ (bytes_eq-Decides prefix prefix).1 refl

-- no name is a numbered one, nor goes on from one
pub fresh_numbered : (stem : List ℕ) (names : List (List ℕ)) (prefix : List ℕ) → IsFreshPrefix stem names prefix → (rest : List ℕ) → Contains names (prefix ++ rest) → ⊥
fresh_numbered stem names prefix is rest c =
    is.fresh (c.0, prefix ++ rest, c.1, c.2, starts_itself prefix rest)

-- decimal digits spell their number
pub number_of-decimal : (n : ℕ) → n < 2 ^ 64 → number_of (decimal n) ≡ n
number_of-decimal n lt =
    decimal_by_steps (λ m ds. number_of ds ≡ m)
    (λ m one. omega arith)
    (λ m ds big rest.
    let more = fold-append (λ number digit. 10 * number + (digit - 48)) 0 ds ((48 + m % 10) ∷ []) in
    omega (arith, more, rest))
    n lt
