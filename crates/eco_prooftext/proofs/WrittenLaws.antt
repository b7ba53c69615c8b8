-- What is written of a proof is read as its chains.
use Rattle.std.proofs.Common.{◌≡◌, ℕ, zero, suc, ◌+◌, ◌-◌, ◌<◌, ◌≤◌, ◌^◌, ◌%◌, ◌||◌, false, cond, List, [], ◌∷◌, ◌++◌, length, take, map, filter, slice_get, Some, decimal, All, refl, sym, ap, ◌∙◌, subst, arith, inl, inr, mod-lt, append_assoc}
use Rattle.std.specs.Prelude.{◌==◌}
use Rattle.std.specs.List.{flat_map, slice_split}
use Rattle.std.specs.Str.Lines.{strip_carriage_return}
use Rattle.std.proofs.lemmas.Bool.{ne_eqb}
use Rattle.std.proofs.lemmas.Fmt.{decimal_by_steps, decimal_digit, decimal_nonempty}
use Rattle.std.proofs.lemmas.List.Elements.{All-nil, All-cons, All-head, All-tail, All-append, All-push, All-map, All-weaker}
use Rattle.std.proofs.lemmas.List.Splits.{slice_split_at}
use Rattle.eco_lists.proofs.Lines.{IsNoFeed}
use Rattle.eco_trace.specs.declared.node.Link.{Link}
use Rattle.eco_trace.specs.declared.clause.Lit.{Lit}
use Rattle.eco_trace.specs.Clauses.{Clauses, IsVarWithin}
use Rattle.eco_trace.specs.Resolution.{Proof, Learnt, clauses_of}
use Rattle.eco_trace.proofs.NodeLaws.{chain_ids}
use Rattle.eco_trace.proofs.PivotLaws.{IsPivotWithin, pivots_within}
use Rattle.eco_text.specs.Numbers.{IsNumberUpTo}
use Rattle.eco_prooftext.specs.Texts.{link_text, learnt_text}
use Rattle.eco_lists.specs.Lines.{lines_of, is_blank}
use Rattle.eco_lists.proofs.Places.{last_of}
use Rattle.eco_prooftext.specs.TraceFile.{is_word, words_of, pair_numbers, AreNumbers, IsStepLine, AreSteps}
use Rattle.eco_prooftext.specs.Written.{pair_of, step_of, IsWritable, IsReadBack}

abbrev pub IsDigit : ℕ → Type 0
IsDigit b = (48 ≤ b) × (b ≤ 57)

abbrev pub IsSmall : ℕ → Type 0
IsSmall n = n ≤ 9223372036854775807

-- a number, and the blank behind it
abbrev word_text : ℕ → List ℕ
word_text n = decimal n ++ 32 ∷ []

abbrev texts : List ℕ → List ℕ
texts ns = flat_map word_text ns

-- the numbers of a learnt clause, and the line that they stand in
abbrev numbers_in : Learnt → List ℕ
numbers_in n = (n.start.0 + 1) ∷ pair_numbers (map pair_of n.links)

abbrev line_in : Learnt → List ℕ
line_in n = texts (numbers_in n) ++ 48 ∷ []

pub small_bits : (n : ℕ) → IsSmall n → n < 2 ^ 64
small_bits n h = omega (arith, h)

pub digits : (n : ℕ) → IsSmall n → All IsDigit (decimal n)
digits n small =
    decimal_by_steps (λ _ ds. All IsDigit ds)
    (λ m few. All-cons IsDigit (48 + m) [] (omega arith, omega (arith, few)) (All-nil IsDigit))
    (λ m ds big h. let last : m % 10 < 10 = mod-lt m (omega arith) in All-push IsDigit ds (48 + m % 10) h (omega arith, omega (arith, last)))
    n (small_bits n small)

no_blank : (b : ℕ) → IsDigit b → is_blank b ≡ false
no_blank b h =
    let first = h.0 in
    let blank : (b == 32) ≡ false = ne_eqb b 32 (λ e. omega (arith, first, e)) in
    let tab : (b == 9) ≡ false = ne_eqb b 9 (λ e. omega (arith, first, e)) in
    (λ i. blank i || tab i)

no_feed : (b : ℕ) → IsDigit b → (b == 10) ≡ false
no_feed b h = let first = h.0 in ne_eqb b 10 (λ e. omega (arith, first, e))

-- the texts of links are those of their pairs
link_texts : (links : List Link) → flat_map link_text links ≡ texts (pair_numbers (map pair_of links))
link_texts [] = refl
link_texts (l ∷ links) =
    let front : List ℕ = word_text l.pivot.0 in
    let id : List ℕ = decimal (l.with.0 + 1) in
    ap (λ (xs : List ℕ). xs ++ flat_map link_text links) (append_assoc front id (32 ∷ []))
    ∙ append_assoc front (id ++ 32 ∷ []) (flat_map link_text links)
    ∙ ap (λ (xs : List ℕ). front ++ ((id ++ 32 ∷ []) ++ xs)) (link_texts links)

learnt_line : (n : Learnt) → learnt_text n ≡ line_in n ++ 10 ∷ []
learnt_line n =
    ap (λ (xs : List ℕ). (word_text (n.start.0 + 1) ++ xs) ++ (48 ∷ 10 ∷ [])) (link_texts n.links)
    ∙ sym (append_assoc (texts (numbers_in n)) (48 ∷ []) (10 ∷ []))

-- a word, the blank behind it, and what follows
pub word_cut : (word more last : List ℕ) → ((word ++ 32 ∷ []) ++ more) ++ last ≡ word ++ 32 ∷ (more ++ last)
word_cut [] more last = refl
word_cut (b ∷ word) more last = ap (λ xs. b ∷ xs) (word_cut word more last)

first_word : (word : List ℕ) (pieces : List (List ℕ)) (n : ℕ) (numbers : List ℕ) → 0 < length word → IsNumberUpTo 9223372036854775807 word n → AreNumbers (filter is_word pieces) numbers → AreNumbers (filter is_word (word ∷ pieces)) (n ∷ numbers)
first_word [] pieces n numbers some is h = absurd (omega (arith, some))
first_word (b ∷ word) pieces n numbers some is h = (is, h)

-- the words of a line are its numbers
words_read : (ns : List ℕ) → All IsSmall ns → AreNumbers (words_of (texts ns ++ 48 ∷ [])) (ns ++ 0 ∷ [])
words_read [] small = (record { text = sym (decimal_digit 0 (omega arith)); within = omega arith }, refl)
words_read (n ∷ ns) small =
    let first : IsSmall n = All-head IsSmall n ns small in
    let behind : List ℕ = texts ns ++ 48 ∷ [] in
    let cut : slice_split is_blank (texts (n ∷ ns) ++ 48 ∷ []) ≡ decimal n ∷ slice_split is_blank behind =
    ap (slice_split is_blank) (word_cut (decimal n) (texts ns) (48 ∷ []))
    ∙ slice_split_at is_blank (decimal n) 32 behind (All-weaker IsDigit (λ b. is_blank b ≡ false) no_blank (decimal n) (digits n first)) refl
    in
    subst (λ (ps : List (List ℕ)). AreNumbers (filter is_word ps) (n ∷ (ns ++ 0 ∷ []))) (sym cut)
    (first_word (decimal n) (slice_split is_blank behind) n (ns ++ 0 ∷ []) (decimal_nonempty n (small_bits n first)) (record { text = refl; within = first })
    (words_read ns (All-tail IsSmall n ns small)))

texts_no_feed : (ns : List ℕ) → All IsSmall ns → All IsNoFeed (texts ns)
texts_no_feed [] small = All-nil IsNoFeed
texts_no_feed (n ∷ ns) small =
    All-append IsNoFeed (word_text n) (texts ns)
    (All-append IsNoFeed (decimal n) (32 ∷ []) (All-weaker IsDigit IsNoFeed no_feed (decimal n) (digits n (All-head IsSmall n ns small))) (All-cons IsNoFeed 32 [] refl (All-nil IsNoFeed)))
    (texts_no_feed ns (All-tail IsSmall n ns small))

-- a line that ends in 0 has no carriage return at its end
no_return : (xs : List ℕ) → strip_carriage_return (xs ++ 48 ∷ []) ≡ xs ++ 48 ∷ []
no_return xs =
    let line : List ℕ = xs ++ 48 ∷ [] in
    ap (λ b. cond (b == 13) (take (length line - 1) line) line) (last_of xs 48)

abbrev IsPivot : Link → Type 0
IsPivot link = (1 ≤ link.pivot.0) × (link.pivot.0 ≤ 9223372036854775807)

pairs_small : (most : ℕ) (links : List Link) → most ≤ 9223372036854775807 → All IsPivot links → All (λ link. link.with.0 < most) links → All IsSmall (pair_numbers (map pair_of links))
pairs_small most [] few pivots ids = All-nil IsSmall
pairs_small most (l ∷ links) few pivots ids =
    let pivot = All-head IsPivot l links pivots in
    let id : l.with.0 < most = All-head (λ (link : Link). link.with.0 < most) l links ids in
    let rest = pair_numbers (map pair_of links) in
    All-cons IsSmall l.pivot.0 ((l.with.0 + 1) ∷ rest) pivot.1
    (All-cons IsSmall (l.with.0 + 1) rest (omega (arith, id, few))
    (pairs_small most links few (All-tail IsPivot l links pivots) (All-tail (λ (link : Link). link.with.0 < most) l links ids)))

-- a learnt clause that can be written: its numbers are small, and its pivots positive
record IsGood (n : Learnt) : Type 0 where
  small : All IsSmall (numbers_in n)
  pivots : All IsPivot n.links

good_at : (c : Clauses) (p : Proof) (k : ℕ) (n : Learnt) → IsWritable c p → slice_get p.learnt k ≡ Some n → IsGood n
good_at c p k n w at =
    let ids = chain_ids p k n w.legal at in
    let few = w.few in
    let start = ids.0 in
    let limit = w.vars_limit in
    let first = subst (λ (cs : List (List Lit)). All (All (IsVarWithin c.vars)) cs) (sym w.originals) w.formed.within in
    let pivots = All-weaker (IsPivotWithin c.vars) IsPivot (λ link h. let last = h.1 in (h.0, omega (arith, last, limit))) n.links (pivots_within c.vars p w.legal first k n at) in
    record {
      small = All-cons IsSmall (n.start.0 + 1) (pair_numbers (map pair_of n.links)) (omega (arith, few, start)) (pairs_small (length (clauses_of p)) n.links few pivots ids.1);
      pivots = pivots;
    }

step_line : (n : Learnt) → IsGood n → IsStepLine (line_in n) (step_of n)
step_line n good = record {
  numbers = numbers_in n ++ 0 ∷ [];
  words = words_read (numbers_in n) good.small;
  says = record {
    row = refl;
    start = omega arith;
    links =
        All-map (λ (pair : ℕ × ℕ). (1 ≤ pair.0) × (1 ≤ pair.1)) pair_of n.links
        (All-weaker IsPivot (λ (link : Link). (1 ≤ link.pivot.0) × (1 ≤ link.with.0 + 1)) (λ link h. (h.0, omega arith)) n.links good.pivots);
  };
}

lines_read : (ns : List Learnt) → ((k : ℕ) (n : Learnt) → slice_get ns k ≡ Some n → IsGood n) → AreSteps (lines_of (flat_map learnt_text ns)) (map step_of ns)
lines_read [] good = inl (refl, refl)
lines_read (n ∷ ns) good =
    let first = good zero n refl in
    let behind : List ℕ = flat_map learnt_text ns in
    let text : learnt_text n ++ behind ≡ line_in n ++ 10 ∷ behind =
    ap (λ (xs : List ℕ). xs ++ behind) (learnt_line n) ∙ append_assoc (line_in n) (10 ∷ []) behind
    in
    let no_feeds : All IsNoFeed (line_in n) =
    All-append IsNoFeed (texts (numbers_in n)) (48 ∷ []) (texts_no_feed (numbers_in n) first.small) (All-cons IsNoFeed 48 [] refl (All-nil IsNoFeed))
    in
    let cut : slice_split (λ b. b == 10) (learnt_text n ++ behind) ≡ line_in n ∷ slice_split (λ b. b == 10) behind =
    ap (slice_split (λ b. b == 10)) text ∙ slice_split_at (λ b. b == 10) (line_in n) 10 behind no_feeds refl
    in
    subst (λ (ps : List (List ℕ)). AreSteps (map strip_carriage_return ps) (step_of n ∷ map step_of ns)) (sym cut)
    (inr (subst (λ (line : List ℕ). IsStepLine line (step_of n)) (sym (no_return (texts (numbers_in n)))) (step_line n first), lines_read ns (λ k m at. good (suc k) m at)))

-- what is written of a proof is the text of its chains
pub read_back : (c : Clauses) (p : Proof) → IsWritable c p → IsReadBack p
read_back c p w = lines_read p.learnt (λ k n at. good_at c p k n w at)
