-- Names, equal and in order.
use Rattle.std.proofs.Common.{◌≡◌, ◌≢◌, ◌↔◌, Contains, ℕ, ◌+◌, ◌≤◌, Bool, true, false, cond, List, [], ◌∷◌, ◌++◌, count_by, refl, ap, ◌∙◌, arith, inl, inr, zero-add, Some}
use Rattle.std.specs.Cmp.Lexicographic.{slice_cmp}
use Rattle.std.specs.List.{IsDistinct, AllByRecursion}
use Rattle.std.specs.Map.{lookup}
use Rattle.std.specs.Ordering.{nat_cmp, ordering_reverse}
use Rattle.std.specs.Str.{bytes_eq}
use Rattle.std.specs.declared.cmp.Ordering.{Ordering}
use Rattle.std.specs.declared.cmp.Ordering.TheVariants.{Less, Equal, Greater}
use Rattle.std.proofs.lemmas.Bool.{false≢true, cases_Bool, or_parts, or_cases, or_from}
use Rattle.std.proofs.lemmas.Cmp.{nat_list_cmp_total, tied_itself}
use Rattle.std.proofs.lemmas.List.Sums.{sum_by-append, sum_by-cons}
use Rattle.std.proofs.lemmas.Map.Keys.{IsDistinct-head, IsDistinct-tail}
use Rattle.std.proofs.lemmas.Map.Lookups.{exact_bytes}
use Rattle.std.proofs.lemmas.Map.Views.{Contains-from_lookup, lookup-from_Contains}
use Rattle.eco_lists.proofs.Names.{bytes_eq-flip, bytes_eq_equiv, same_name}
use Rattle.eco_meaning.specs.Cost.{Weights, line_weight}
use Rattle.eco_meaning.specs.Names.{has}
use Rattle.eco_weight.specs.Files.{names_in}

-- no name stands before itself
pub no_earlier_itself : (name : List ℕ) → slice_cmp nat_cmp name name ≢ Less
no_earlier_itself name e = (cc (tied_itself nat_list_cmp_total name, e))

-- names of which neither stands before the other are equal
pub same_place : (a b : List ℕ) → slice_cmp nat_cmp a b ≢ Less → slice_cmp nat_cmp b a ≢ Less → a ≡ b
same_place a b f g = by (slice_cmp nat_cmp a b) refl
  where
    by : (o : Ordering) → slice_cmp nat_cmp a b ≡ o → a ≡ b
    by Less e = absurd (f e)
    by Equal e = exact_bytes a b e
    by Greater e = absurd (g (nat_list_cmp_total.antisymm b a ∙ ap ordering_reverse e))

-- how often a name stands in a list with one name more
pub count_more : (name : List ℕ) (list : List (List ℕ)) (other : List ℕ) → count_by (bytes_eq name) (list ++ other ∷ []) ≡ count_by (bytes_eq name) list + cond (bytes_eq name other) 1 0
count_more name list other =
    sum_by-append (λ x. cond (bytes_eq name x) 1 0) list (other ∷ []) ∙ ap (λ n. count_by (bytes_eq name) list + n) (zero-add (cond (bytes_eq name other) 1 0))

count_first : (name x : List ℕ) (list : List (List ℕ)) → count_by (bytes_eq name) (x ∷ list) ≡ cond (bytes_eq name x) 1 0 + count_by (bytes_eq name) list
count_first name x list = sum_by-cons (λ y. cond (bytes_eq name y) 1 0) x list

-- one where it holds, else none
pub one_if : (b : Bool) → b ≡ true → cond {A = ℕ} b 1 0 ≡ 1
one_if b e = ap (λ t. cond {A = ℕ} t 1 0) e

pub none_if : (b : Bool) → b ≡ false → cond {A = ℕ} b 1 0 ≡ 0
none_if b e = ap (λ t. cond {A = ℕ} t 1 0) e

-- a name that isn't in the list is counted never, one that is at least once
pub count_none : (name : List ℕ) (list : List (List ℕ)) → has list name ≡ false → count_by (bytes_eq name) list ≡ 0
count_none name [] h = refl
count_none name (x ∷ list) h =
    let parts = or_parts (bytes_eq name x) (has list name) h in
    let first = count_first name x list in
    let here = none_if (bytes_eq name x) parts.0 in
    let rest = count_none name list parts.1 in
    omega arith

pub count_some : (name : List ℕ) (list : List (List ℕ)) → has list name ≡ true → 1 ≤ count_by (bytes_eq name) list
count_some name [] h = absurd (false≢true h)
count_some name (x ∷ list) h =
    let first = count_first name x list in
    elim (or_cases (bytes_eq name x) (has list name) h) [
      | inl here ↦ let one = one_if (bytes_eq name x) here in omega arith
      | inr there ↦ let rest = count_some name list there in omega arith
    ]

-- a name from which all others differ isn't among them
apart_none : (x : List ℕ) (list : List (List ℕ)) → AllByRecursion (λ y. bytes_eq x y ≡ false) list → has list x ≡ false
apart_none x [] h = refl
apart_none x (y ∷ list) h = or_from (bytes_eq x y) (has list x) h.0 (apart_none x list h.1)

-- of different names none stands twice
pub distinct_once : (list : List (List ℕ)) (name : List ℕ) → IsDistinct bytes_eq list → count_by (bytes_eq name) list ≤ 1
distinct_once [] name d = omega arith
distinct_once (x ∷ list) name d =
    let first = count_first name x list in
    elim (cases_Bool (bytes_eq name x)) [
      | inl here ↦
          let one = one_if (bytes_eq name x) here in
          let absent : has list name ≡ false = ap (has list) (same_name name x here) ∙ apart_none x list (IsDistinct-head bytes_eq x list d) in
          let rest = count_none name list absent in
          omega arith
      | inr apart ↦
          let none = none_if (bytes_eq name x) apart in
          let rest = distinct_once list name (IsDistinct-tail bytes_eq x list d) in
          omega arith
    ]

-- what a map finds is the weight on the line of the name
pub line_weight-lookup : (lines : Weights) (name : List ℕ) → lookup (bytes_eq name) lines ≡ line_weight lines name
line_weight-lookup [] name = refl
line_weight-lookup (line ∷ lines) name = rw (bytes_eq-flip name line.0) (ap (cond (bytes_eq line.0 name) (Some line.1)) (line_weight-lookup lines name))

-- a map finds just what stands on a line
pub lookup-exactly : (lines : Weights) (name : List ℕ) (weight : ℕ) → IsDistinct bytes_eq (names_in lines) → (lookup (bytes_eq name) lines ≡ Some weight) ↔ Contains lines (name, weight)
lookup-exactly lines name weight distinct = (
  Contains-from_lookup same_name name weight lines,
  lookup-from_Contains bytes_eq_equiv name weight lines distinct,
)
