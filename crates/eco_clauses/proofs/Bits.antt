-- Clauses as bits: when lists of literals hold.
use Rattle.std.proofs.Common.{◌≡◌, ◌↔◌, zero, suc, Bool, true, false, not, ◌&&◌, ◌||◌, cond, List, [], ◌∷◌, map, option_to_list, refl, sym, ◌∙◌, ap, subst, arith}
use Rattle.std.specs.List.{list_all, list_any}
use Rattle.std.proofs.lemmas.Bool.{false≢true}
use Rattle.std.proofs.lemmas.List.Elements.{All-append}
use Rattle.std.proofs.lemmas.List.Folds.{list_all-append}
use Rattle.std.proofs.Math.Bool.{or-true}
use Rattle.eco_lists.specs.Bits.{exactly_one}
use Rattle.eco_lists.proofs.Tests.{both}
use Rattle.eco_meaning.specs.Gates.{is_odd}
use Rattle.eco_lists.proofs.Members.{All-front, All-back}
use Rattle.eco_lists.proofs.Odd.{one_none, one_assoc, odd_cons}
use Rattle.eco_trace.specs.declared.clause.Lit.{Lit}
use Rattle.eco_trace.specs.Clauses.{Valuation, Clauses, IsTrueIn, HoldsIn, Satisfies, complement, truth, read}
use Rattle.eco_trace.proofs.ClauseLaws.{complement_read}
use Rattle.eco_clauses.specs.Listing.{clause_of, with_list, with_lists}
use Rattle.eco_clauses.specs.Gates.{and_clauses, or_clauses, xor_clauses}
use Rattle.eco_clauses.proofs.ClauseLists.{list_holds}

-- ---- literals
-- two bits are one
abbrev pub same : Bool → Bool → Bool
same a b = cond a b (not b)

pub same_bits : (a b : Bool) → same a b ≡ true → a ≡ b
same_bits true true e = refl
same_bits false false e = refl
same_bits true false e = cc
same_bits false true e = cc

pub bits_same : (a b : Bool) → a ≡ b → same a b ≡ true
bits_same true b e = sym e
bits_same false b e = ap not (sym e)

-- a literal is true by its bit
sign_bit : (value sign : Bool) → cond sign value (not value) ≡ true → value ≡ sign
sign_bit true true e = refl
sign_bit false false e = refl
sign_bit true false e = cc
sign_bit false true e = cc

bit_sign : (value sign : Bool) → value ≡ sign → cond sign value (not value) ≡ true
bit_sign value true e = e
bit_sign value false e = ap not e

-- complements have the other bits
pub read_complements : (v : Valuation) (lits : List Lit) → read v (map complement lits) ≡ map not (read v lits)
read_complements v [] = refl
read_complements v (l ∷ lits) = ap (λ b. b ∷ read v (map complement lits)) (complement_read v l) ∙ ap (λ bs. not (truth v l) ∷ bs) (read_complements v lits)

-- ---- lists of literals
-- some literal of the list is true
abbrev pub holds : Valuation → List Lit → Bool
holds v lits = list_any (truth v) lits

pub some_holds : (v : Valuation) (lits : List Lit) → HoldsIn v lits → holds v lits ≡ true
some_holds v [] (k, l, lt, at, is) = absurd (omega arith)
some_holds v (m ∷ lits) (zero, l, lt, at, is) = ap (λ b. b || holds v lits) (bit_sign (v m.var.0) m.positive (subst (IsTrueIn v) (sym at) is))
some_holds v (m ∷ lits) (suc k, l, lt, at, is) = ap (λ b. truth v m || b) (some_holds v lits (k, l, omega arith, at, is)) ∙ or-true (truth v m)

pub holds_some : (v : Valuation) (lits : List Lit) → holds v lits ≡ true → HoldsIn v lits
holds_some v [] e = absurd (false≢true e)
holds_some v (m ∷ lits) e = by (truth v m) refl e (holds_some v lits)
  where
    by : (b : Bool) → truth v m ≡ b → (b || holds v lits) ≡ true → (holds v lits ≡ true → HoldsIn v lits) → HoldsIn v (m ∷ lits)
    by true is h rest = (0, m, omega arith, refl, sign_bit (v m.var.0) m.positive is)
    by false is h rest = let r = rest h in (suc r.0, r.1, omega (arith, r.2), r.3, r.4)

-- each of the lists holds
abbrev pub all_hold : Valuation → List (List Lit) → Bool
all_hold v lists = list_all (holds v) lists

-- one list more
pub list_more : (v : Valuation) (c : Clauses) (lits : List Lit) → Satisfies v (with_list c lits).clauses ↔ (Satisfies v c.clauses × (holds v lits ≡ true))
list_more v c lits = (
  λ h. (
    All-front (HoldsIn v) c.clauses (option_to_list (clause_of lits)) h,
    some_holds v lits ((list_holds v lits).0 (All-back (HoldsIn v) c.clauses (option_to_list (clause_of lits)) h)),
  ),
  λ h. All-append (HoldsIn v) c.clauses (option_to_list (clause_of lits)) h.0 ((list_holds v lits).1 (holds_some v lits h.1)),
)

-- several lists
pub lists_more : (v : Valuation) (c : Clauses) (lists : List (List Lit)) → Satisfies v (with_lists c lists).clauses ↔ (Satisfies v c.clauses × (all_hold v lists ≡ true))
lists_more v c [] = (λ h. (h, refl), λ h. h.0)
lists_more v c (lits ∷ lists) =
    let first = list_more v c lits in
    let rest = lists_more v (with_list c lits) lists in (
      λ h. let r = rest.0 h in let f = first.0 r.0 in (f.0, ap (λ b. b && all_hold v lists) f.1 ∙ r.1),
      λ h. let s = both (holds v lits) (all_hold v lists) h.1 in rest.1 (first.1 (h.0, s.0), s.1),
    )

-- ---- the clauses of a conjunction and of a disjunction
-- whether all bits are 1, and whether some is
abbrev pub every : List Bool → Bool
every bits = list_all (λ bit. bit) bits

abbrev pub some : List Bool → Bool
some bits = list_any (λ bit. bit) bits

holds_bits : (v : Valuation) (lits : List Lit) → holds v lits ≡ some (read v lits)
holds_bits v [] = refl
holds_bits v (l ∷ lits) = ap (λ b. truth v l || b) (holds_bits v lits)

some_complements : (bits : List Bool) → some (map not bits) ≡ not (every bits)
some_complements [] = refl
some_complements (true ∷ bits) = some_complements bits
some_complements (false ∷ bits) = refl

and_pairs : (v : Valuation) (o : Lit) (value : Bool) → truth v o ≡ value → (ins : List Lit) → all_hold v (map (λ i. complement o ∷ i ∷ []) ins) ≡ cond value (every (read v ins)) true
and_pairs v o true is [] = refl
and_pairs v o false is [] = refl
and_pairs v o value is (i ∷ ins) =
    ap (λ b. (b || (truth v i || false)) && all_hold v (map (λ i. complement o ∷ i ∷ []) ins)) (complement_read v o ∙ ap not is)
    ∙ ap (λ b. (not value || (truth v i || false)) && b) (and_pairs v o value is ins)
    ∙ by value (truth v i) (every (read v ins))
  where
    by : (value bit rest : Bool) → ((not value || (bit || false)) && cond value rest true) ≡ cond value (bit && rest) true
    by true true rest = refl
    by true false rest = refl
    by false bit rest = refl

pub and_hold : (v : Valuation) (o : Lit) (ins : List Lit) → all_hold v (and_clauses o ins) ≡ same (truth v o) (every (read v ins))
and_hold v o ins =
    list_all-append (holds v) (map (λ i. complement o ∷ i ∷ []) ins) ((o ∷ map complement ins) ∷ [])
    ∙ ap (λ b. b && ((truth v o || holds v (map complement ins)) && true)) (and_pairs v o (truth v o) refl ins)
    ∙ ap (λ b. cond (truth v o) (every (read v ins)) true && ((truth v o || b) && true)) (holds_bits v (map complement ins) ∙ ap some (read_complements v ins) ∙ some_complements (read v ins))
    ∙ by (truth v o) (every (read v ins))
  where
    by : (value all : Bool) → (cond value all true && ((value || not all) && true)) ≡ same value all
    by true true = refl
    by true false = refl
    by false true = refl
    by false false = refl

or_pairs : (v : Valuation) (o : Lit) (value : Bool) → truth v o ≡ value → (ins : List Lit) → all_hold v (map (λ i. o ∷ complement i ∷ []) ins) ≡ cond value true (not (some (read v ins)))
or_pairs v o true is [] = refl
or_pairs v o false is [] = refl
or_pairs v o value is (i ∷ ins) =
    ap (λ b. (b || (truth v (complement i) || false)) && all_hold v (map (λ i. o ∷ complement i ∷ []) ins)) is
    ∙ ap (λ b. (value || (b || false)) && all_hold v (map (λ i. o ∷ complement i ∷ []) ins)) (complement_read v i)
    ∙ ap (λ b. (value || (not (truth v i) || false)) && b) (or_pairs v o value is ins)
    ∙ by value (truth v i) (some (read v ins))
  where
    by : (value bit rest : Bool) → ((value || (not bit || false)) && cond value true (not rest)) ≡ cond value true (not (bit || rest))
    by true bit rest = refl
    by false true rest = refl
    by false false rest = refl

pub or_hold : (v : Valuation) (o : Lit) (ins : List Lit) → all_hold v (or_clauses o ins) ≡ same (truth v o) (some (read v ins))
or_hold v o ins =
    list_all-append (holds v) (map (λ i. o ∷ complement i ∷ []) ins) ((complement o ∷ ins) ∷ [])
    ∙ ap (λ b. b && ((truth v (complement o) || holds v ins) && true)) (or_pairs v o (truth v o) refl ins)
    ∙ ap (λ b. cond (truth v o) true (not (some (read v ins))) && ((b || holds v ins) && true)) (complement_read v o)
    ∙ ap (λ b. cond (truth v o) true (not (some (read v ins))) && ((not (truth v o) || b) && true)) (holds_bits v ins)
    ∙ by (truth v o) (some (read v ins))
  where
    by : (value any : Bool) → (cond value true (not any) && ((not value || any) && true)) ≡ same value any
    by true true = refl
    by true false = refl
    by false true = refl
    by false false = refl

-- ---- the clauses of an exclusive or
four : Bool → Bool → Bool → Bool → Bool → Bool → Bool
four p a b np na nb =
    (np || (a || (b || false))) && ((np || (na || (nb || false))) && ((p || (na || (b || false))) && ((p || (a || (nb || false))) && true)))

four_same : (p a b : Bool) → four p a b (not p) (not a) (not b) ≡ same p (exactly_one a b)
unfolding four
four_same true true true = refl
four_same true true false = refl
four_same true false true = refl
four_same true false false = refl
four_same false true true = refl
four_same false true false = refl
four_same false false true = refl
four_same false false false = refl

pub xor_hold : (v : Valuation) (p a b : Lit) → all_hold v (xor_clauses p a b) ≡ same (truth v p) (exactly_one (truth v a) (truth v b))
unfolding four
xor_hold v p a b =
    ap (λ x. four (truth v p) (truth v a) (truth v b) x (truth v (complement a)) (truth v (complement b))) (complement_read v p)
    ∙ ap (λ x. four (truth v p) (truth v a) (truth v b) (not (truth v p)) x (truth v (complement b))) (complement_read v a)
    ∙ ap (λ x. four (truth v p) (truth v a) (truth v b) (not (truth v p)) (not (truth v a)) x) (complement_read v b)
    ∙ four_same (truth v p) (truth v a) (truth v b)

-- ---- odd numbers of ones
-- the bits one by one, from the first one on
abbrev pub odd_from : Bool → List Bool → Bool
odd_from a [] = a
odd_from a (b ∷ bits) = odd_from (exactly_one a b) bits

-- whether an odd number of them is 1
pub odd_is : (a : Bool) (bits : List Bool) → is_odd (a ∷ bits) ≡ odd_from a bits
odd_is a [] = odd_cons a [] ∙ one_none a
odd_is a (b ∷ bits) =
    odd_cons a (b ∷ bits) ∙ ap (exactly_one a) (odd_cons b bits) ∙ one_assoc a b (is_odd bits) ∙ sym (odd_cons (exactly_one a b) bits) ∙ odd_is (exactly_one a b) bits
