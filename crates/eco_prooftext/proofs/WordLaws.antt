-- The numbers of a line's words, and the steps that they are.
use Rattle.std.proofs.Common.{◌≡◌, ℕ, zero, suc, ◌+◌, ◌*◌, ◌<◌, ◌≤◌, true, false, List, [], ◌∷◌, ◌++◌, length, get_or, filter, Option, Some, None, Result, Ok, Err, IfOk, IfSome, All, ◌-◌, take, drop, refl, sym, ap, ◌∙◌, subst, arith, inl, inr}
use Rattle.std.specs.Prelude.{◌==◌}
use Rattle.std.proofs.lemmas.Bool.{false≢true}
use Rattle.std.proofs.lemmas.List.{length-append, take_all}
use Rattle.std.proofs.lemmas.List.Elements.{All-nil, All-cons, All-head, All-tail}
use Rattle.eco_check.specs.Steps.{StepValue}
use Rattle.eco_text.specs.Numbers.{IsNumberUpTo}
use Rattle.eco_prooftext.specs.TraceFile.{is_word, words_of, AreNumbers, pair_numbers, IsStep, IsBlank, IsSound}
use Rattle.eco_prooftext.specs.TraceRead.{IsFront, IsRow, Numbered, ReadsAs}
use Rattle.eco_prooftext.specs.declared.trace_line.Line.{Line}
use Rattle.eco_prooftext.specs.declared.trace_line.Line.TheVariants.{Blank, Taken, Fault}
use Rattle.eco_text.proofs.NumberLaws.{number_once}

-- one number more
numbers_more : (words : List (List ℕ)) (numbers : List ℕ) (word : List ℕ) (number : ℕ) → AreNumbers words numbers → IsNumberUpTo 9223372036854775807 word number → AreNumbers (words ++ word ∷ []) (numbers ++ number ∷ [])
numbers_more [] numbers word number e is = subst (λ ns. AreNumbers (word ∷ []) (ns ++ number ∷ [])) (sym e) (is, refl)
numbers_more (w ∷ words) [] word number h is = absurd h
numbers_more (w ∷ words) (n ∷ numbers) word number h is = (h.0, numbers_more words numbers word number h.1 is)

-- a piece that isn't empty is a word
pub some_word : (piece : List ℕ) → (length piece == 0) ≡ false → is_word piece ≡ true
some_word [] e = absurd (false≢true (sym e))
some_word (b ∷ more) e = refl

-- a word adds its number
pub word_adds : (piece : List ℕ) (number : ℕ) (numbers : List ℕ) → is_word piece ≡ true → IsNumberUpTo 9223372036854775807 piece number → (words : List (List ℕ)) → AreNumbers words numbers → AreNumbers (words ++ filter is_word (piece ∷ [])) (numbers ++ number ∷ [])
word_adds [] number numbers word is words h = absurd (false≢true word)
word_adds (b ∷ more) number numbers word is words h = numbers_more words numbers (b ∷ more) number h is

-- the words of one piece and of those behind it
none_first : (piece : List ℕ) (pieces : List (List ℕ)) (numbers : List ℕ) → is_word piece ≡ true → ((n : ℕ) → IsNumberUpTo 9223372036854775807 piece n → ⊥) → AreNumbers (filter is_word (piece ∷ pieces)) numbers → ⊥
none_first [] pieces numbers word none h = false≢true word
none_first (b ∷ more) pieces [] word none h = h
none_first (b ∷ more) pieces (n ∷ numbers) word none h = none n h.0

behind_first : (piece : List ℕ) (pieces : List (List ℕ)) (numbers : List ℕ) → AreNumbers (filter is_word (piece ∷ pieces)) numbers → (rest : List ℕ) × AreNumbers (filter is_word pieces) rest
behind_first [] pieces numbers h = (numbers, h)
behind_first (b ∷ more) pieces [] h = absurd h
behind_first (b ∷ more) pieces (n ∷ numbers) h = (numbers, h.1)

-- where a word is no number there are no numbers
pub none_at : (pieces : List (List ℕ)) (k : ℕ) (piece : List ℕ) → k < length pieces → piece ≡ get_or pieces k piece → is_word piece ≡ true → ((n : ℕ) → IsNumberUpTo 9223372036854775807 piece n → ⊥) → (numbers : List ℕ) → AreNumbers (filter is_word pieces) numbers → ⊥
none_at [] k piece within at word none numbers h = omega (arith, within)
none_at (p ∷ pieces) zero piece within at word none numbers h =
    none_first p pieces numbers (subst (λ w. is_word w ≡ true) at word) (subst (λ w. (n : ℕ) → IsNumberUpTo 9223372036854775807 w n → ⊥) at none) h
none_at (p ∷ pieces) (suc k) piece within at word none numbers h =
    let rest = behind_first p pieces numbers h in
    none_at pieces k piece (omega (arith, within)) at word none rest.0 rest.1

-- words are one list of numbers
pub numbers_once : (words : List (List ℕ)) (numbers others : List ℕ) → AreNumbers words numbers → AreNumbers words others → numbers ≡ others
numbers_once [] numbers others h g = h ∙ sym g
numbers_once (w ∷ words) [] others h g = absurd h
numbers_once (w ∷ words) (n ∷ numbers) [] h g = absurd g
numbers_once (w ∷ words) (n ∷ numbers) (m ∷ others) h g =
    let same = number_once 9223372036854775807 w n m (omega arith) h.0 g.0 in
    let rest = numbers_once words numbers others h.1 g.1 in
    (λ i. same i ∷ rest i)

no_words : (words : List (List ℕ)) (numbers : List ℕ) → AreNumbers words numbers → numbers ≡ [] → words ≡ []
no_words [] numbers h e = refl
no_words (w ∷ words) [] h e = absurd h
no_words (w ∷ words) (n ∷ numbers) h e = absurd (cc e)

pub blank_numbers : (line : List ℕ) → IsBlank line → AreNumbers (words_of line) []
blank_numbers line blank = subst (λ ws. AreNumbers ws []) (sym blank) refl

-- a line whose words aren't numbers is at fault
pub fault_none : (line : List ℕ) → ((numbers : List ℕ) → AreNumbers (words_of line) numbers → ⊥) → IsSound line → ⊥
fault_none line none (inl blank) = none [] (blank_numbers line blank)
fault_none line none (inr step) = none step.1.numbers step.1.words

fault_numbers : (line numbers : List ℕ) → AreNumbers (words_of line) numbers → (numbers ≡ [] → ⊥) → ((step : StepValue) → IsStep numbers step → ⊥) → IsSound line → ⊥
fault_numbers line numbers h some none (inl blank) = some (numbers_once (words_of line) numbers [] h (blank_numbers line blank))
fault_numbers line numbers h some none (inr step) =
    none step.0 (subst (λ ns. IsStep ns step.0) (numbers_once (words_of line) step.1.numbers numbers step.1.words h) step.1.says)

reads_from : (line numbers : List ℕ) (l : Line) → AreNumbers (words_of line) numbers → Numbered numbers l → ReadsAs line l
reads_from line numbers Blank h n = no_words (words_of line) numbers h n
reads_from line numbers (Taken step) h n = record { numbers = numbers; words = h; says = n }
reads_from line numbers Fault h n = fault_numbers line numbers h n.0 n.1

-- the line is what its numbers are
pub reads_ok : {E : Type 0} (line numbers : List ℕ) (r : Result Line E) → AreNumbers (words_of line) numbers → IfOk r (Numbered numbers) → IfOk r (ReadsAs line)
reads_ok line numbers (Ok l) h n = reads_from line numbers l h n
reads_ok line numbers (Err e) h n = tt

-- one pair more
pub pairs_push : (pairs : List (ℕ × ℕ)) (a b : ℕ) (more : List ℕ) → pair_numbers (pairs ++ (a, b) ∷ []) ++ more ≡ pair_numbers pairs ++ (a ∷ b ∷ more)
pairs_push [] a b more = refl
pairs_push (p ∷ pairs) a b more = ap (λ ns. p.0 ∷ p.1 ∷ ns) (pairs_push pairs a b more)

pair_count : (pairs : List (ℕ × ℕ)) → length (pair_numbers pairs) ≡ 2 * length pairs
pair_count [] = refl
pair_count (p ∷ pairs) = let rest = pair_count pairs in omega (arith, rest)

-- what is shorter than two and not empty is one number
pub one_left : (xs : List ℕ) → length xs < 2 → (length xs == 0) ≡ false → length xs ≡ 1
one_left [] short e = absurd (false≢true (sym e))
one_left (x ∷ []) short e = refl
one_left (x ∷ y ∷ xs) short e = absurd (omega (arith, short))

-- where one number is left the numbers are no pairs
pub pairs_odd : (pairs others : List (ℕ × ℕ)) (rest numbers : List ℕ) → pair_numbers pairs ++ rest ≡ numbers → length rest ≡ 1 → pair_numbers others ≡ numbers → ⊥
pairs_odd pairs others rest numbers e one f =
    let both : length (pair_numbers others) ≡ length (pair_numbers pairs ++ rest) = ap (λ (xs : List ℕ). length xs) (f ∙ sym e) in
    let whole : length (pair_numbers pairs ++ rest) ≡ length (pair_numbers pairs) + length rest = length-append (pair_numbers pairs) rest in
    let first = pair_count pairs in
    let second = pair_count others in
    omega (arith, both, whole, first, second, one)

abbrev pub IsPositive : ℕ → Type 0
IsPositive n = 1 ≤ n

abbrev ArePositive : ℕ × ℕ → Type 0
ArePositive pair = (1 ≤ pair.0) × (1 ≤ pair.1)

pairs_positive : (pairs : List (ℕ × ℕ)) → All IsPositive (pair_numbers pairs) → All ArePositive pairs
pairs_positive [] h = All-nil ArePositive
pairs_positive (p ∷ pairs) h =
    let behind = All-tail IsPositive p.0 (p.1 ∷ pair_numbers pairs) h in
    All-cons ArePositive p pairs
    (All-head IsPositive p.0 (p.1 ∷ pair_numbers pairs) h, All-head IsPositive p.1 (pair_numbers pairs) behind)
    (pairs_positive pairs (All-tail IsPositive p.1 (pair_numbers pairs) behind))

numbers_positive : (pairs : List (ℕ × ℕ)) → All ArePositive pairs → All IsPositive (pair_numbers pairs)
numbers_positive [] h = All-nil IsPositive
numbers_positive (p ∷ pairs) h =
    let first = All-head ArePositive p pairs h in
    All-cons IsPositive p.0 (p.1 ∷ pair_numbers pairs) first.0
    (All-cons IsPositive p.1 (pair_numbers pairs) first.1 (numbers_positive pairs (All-tail ArePositive p pairs h)))

-- positive numbers with these pairs are a step
front_from : (front : List ℕ) (start : ℕ) (pairs : List ℕ) (step : StepValue) → front ≡ start ∷ pairs → All IsPositive front → IsRow start pairs step → IsFront front step
front_from front start pairs step e all row =
    let whole : front ≡ step.start ∷ pair_numbers step.links = e ∙ (λ i. sym row.begins i ∷ sym row.goes_on i) in
    let positive : All IsPositive (step.start ∷ pair_numbers step.links) = subst (All IsPositive) whole all in
    record {
      row = whole;
      start = All-head IsPositive step.start (pair_numbers step.links) positive;
      links = pairs_positive step.links (All-tail IsPositive step.start (pair_numbers step.links) positive);
    }

-- numbers are the first of them and the others
pub first_cut : (numbers : List ℕ) (d : ℕ) → 1 ≤ length numbers → numbers ≡ get_or numbers 0 d ∷ take (length numbers - 1) (drop 1 numbers)
first_cut [] d some = absurd (omega (arith, some))
first_cut (n ∷ numbers) d some = ap (λ ns. n ∷ ns) (sym (take_all (length (n ∷ numbers) - 1) numbers (omega arith)))

-- the step that the numbers are, where it is found
pub front_ok : {E : Type 0} (front : List ℕ) (start : ℕ) (pairs : List ℕ) (r : Result (Option StepValue) E) → front ≡ start ∷ pairs → All IsPositive front → IfOk r (λ found. IfSome found (IsRow start pairs)) → IfOk r (λ found. IfSome found (IsFront front))
front_ok front start pairs (Ok (Some step)) e all h = front_from front start pairs step e all h
front_ok front start pairs (Ok None) e all h = tt
front_ok front start pairs (Err f) e all h = tt

-- the numbers of a step are positive
pub front_positive : (front : List ℕ) (step : StepValue) → IsFront front step → All IsPositive front
front_positive front step is =
    subst (All IsPositive) (sym is.row) (All-cons IsPositive step.start (pair_numbers step.links) is.start (numbers_positive step.links is.links))

-- the numbers with the last 0
pub step_from_front : (numbers front : List ℕ) (step : StepValue) → numbers ≡ front ++ 0 ∷ [] → IsFront front step → IsStep numbers step
step_from_front numbers front step e is = record {
  row = e ∙ ap (λ ns. ns ++ 0 ∷ []) is.row;
  start = is.start;
  links = is.links;
}

last_same : (xs ys : List ℕ) (x y : ℕ) → xs ++ x ∷ [] ≡ ys ++ y ∷ [] → (xs ≡ ys) × (x ≡ y)
last_same [] [] x y e = (refl, cc e)
last_same [] (b ∷ []) x y e = absurd (cc e)
last_same [] (b ∷ c ∷ ys) x y e = absurd (cc e)
last_same (a ∷ []) [] x y e = absurd (cc e)
last_same (a ∷ c ∷ xs) [] x y e = absurd (cc e)
last_same (a ∷ xs) (b ∷ ys) x y e =
    let first : a ≡ b = cc e in
    let rest = last_same xs ys x y (cc e) in
    ((λ i. first i ∷ rest.0 i), rest.1)

-- the numbers of a step end in 0
pub front_from_step : (numbers front : List ℕ) (last : ℕ) (step : StepValue) → numbers ≡ front ++ last ∷ [] → IsStep numbers step → (last ≡ 0) × IsFront front step
front_from_step numbers front last step e is =
    let same = last_same front (step.start ∷ pair_numbers step.links) last 0 (sym e ∙ is.row) in
    (same.1, record { row = same.0; start = is.start; links = is.links })
