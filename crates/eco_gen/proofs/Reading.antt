-- Which gates are read.
use Rattle.std.proofs.Common.{◌≡◌, ℕ, ◌+◌, ◌||◌, true, false, cond, List, [], ◌∷◌, ◌++◌, not, refl, sym, ◌∙◌, ap, arith}
use Rattle.std.specs.List.{filter, list_any, range_with_len}
use Rattle.std.proofs.lemmas.List.{append-nil}
use Rattle.std.proofs.lemmas.List.Elements.{filter-append}
use Rattle.std.proofs.lemmas.List.Folds.{list_any-append}
use Rattle.std.proofs.Math.Bool.{or-false}
use Rattle.eco_gen.specs.Drawn.{is_read, reads_gate}
use Rattle.eco_lists.proofs.Ranges.{range_more}

-- no gate reads among none
pub none_read : (seed j : ℕ) → is_read seed 0 j ≡ false
unfolding is_read
none_read seed j = refl

-- one more gate
pub read_more : (seed n j : ℕ) → is_read seed (n + 1) j ≡ (is_read seed n j || reads_gate seed j n)
unfolding is_read
read_more seed n j =
    ap (list_any (reads_gate seed j)) (range_more 0 n n (omega arith)) ∙ list_any-append (reads_gate seed j) (range_with_len 0 n) (n ∷ [])
    ∙ ap (λ b. is_read seed n j || b) (or-false (reads_gate seed j n))

-- one more gate that no gate reads
unread_more : (seed size n : ℕ) → filter (λ j. not (is_read seed size j)) (range_with_len 0 (n + 1)) ≡ filter (λ j. not (is_read seed size j)) (range_with_len 0 n) ++ cond (not (is_read seed size n)) (n ∷ []) []
unread_more seed size n =
    ap (filter (λ j. not (is_read seed size j))) (range_more 0 n n (omega arith)) ∙ filter-append (λ j. not (is_read seed size j)) (range_with_len 0 n) (n ∷ [])

pub unread_yes : (seed size n : ℕ) (gates : List ℕ) → gates ≡ filter (λ j. not (is_read seed size j)) (range_with_len 0 n) → is_read seed size n ≡ false → gates ++ n ∷ [] ≡ filter (λ j. not (is_read seed size j)) (range_with_len 0 (n + 1))
unread_yes seed size n gates so_far free = rw (unread_more seed size n, so_far, free) refl

pub unread_no : (seed size n : ℕ) (gates : List ℕ) → gates ≡ filter (λ j. not (is_read seed size j)) (range_with_len 0 n) → is_read seed size n ≡ true → gates ≡ filter (λ j. not (is_read seed size j)) (range_with_len 0 (n + 1))
unread_no seed size n gates so_far taken = rw (unread_more seed size n, so_far, taken) (sym (append-nil (filter (λ j. not (is_read seed size j)) (range_with_len 0 n))))

pub ruleset reading = (none_read, read_more)
