-- Lists seen as sets: what they have, when they are distinct, and what filters and counts say of them.
use Rattle.std.proofs.Common.{◌≡◌, ℕ, ◌+◌, ◌<◌, inl, inr, Bool, true, false, cond, List, [], ◌∷◌, ◌++◌, get_or, map, refl, sym, ◌∙◌, ap, subst, arith}
use Rattle.std.specs.List.{Contains, IsDistinct, filter, count_by}
use Rattle.std.specs.Str.{bytes_eq}
use Rattle.std.specs.Prelude.{nat_le}
use Rattle.std.proofs.lemmas.Slice.Eq.{bytes_eq-Decides}
use Rattle.std.proofs.lemmas.Bool.{false_from_ne_true, lt-leb, both_ways}
use Rattle.std.proofs.lemmas.Map.Keys.{IsDistinct-head, IsDistinct-tail, IsDistinct-cons}
use Rattle.std.proofs.lemmas.Map.Views.{Contains-from_any}
use Rattle.std.proofs.lemmas.List.Elements.{All-from_recursion, recursion_from_All, Contains-append_left, Contains-append_right, Contains-append_cases, Contains-get_or}
use Rattle.std.proofs.lemmas.List.{map-id}
use Rattle.std.proofs.lemmas.List.Folds.{list_any_at}
use Rattle.std.proofs.lemmas.List.Sums.{sum_by-cons}
use Rattle.eco_lists.proofs.Members.{only_one, Contains_cases, Contains_first, Contains_later, Contains_none, filter-Contains}
use Rattle.eco_meaning.specs.declared.name.Operand.{Operand}
use Rattle.eco_meaning.specs.declared.name.Operand.TheVariants.{Zero, One, Named}
use Rattle.eco_meaning.specs.Names.{has}
use Rattle.eco_netlist.specs.Draft.{operand_names}
use Rattle.eco_netlist.specs.Refusals.{is_twice}

-- what an operand names
pub operand_named : (t : Operand) (name : List ℕ) → Contains (operand_names t) name → t ≡ Named name
operand_named Zero name c = absurd (Contains_none name c)
operand_named One name c = absurd (Contains_none name c)
operand_named (Named other) name c = ap Named (only_one other name c)

-- a test that all elements pass keeps all
pub filter_all : {X : Type 0} (p : X → Bool) (xs : List X) → ((x : X) → Contains xs x → p x ≡ true) → filter p xs ≡ xs
filter_all p [] h = refl
filter_all p (x ∷ xs) h =
    rw (h x (Contains_first x xs)) (ap (λ ys. x ∷ ys) (filter_all p xs (λ y c. h y (Contains_later x y xs c))))

-- the test for a member, and being one
pub Contains-from_has : (list : List (List ℕ)) (name : List ℕ) → has list name ≡ true → Contains list name
Contains-from_has list name e = Contains-from_any (λ x y. (bytes_eq-Decides x y).0) name list e

pub has-from_Contains : (list : List (List ℕ)) (name : List ℕ) → Contains list name → has list name ≡ true
has-from_Contains list name c =
    list_any_at (bytes_eq name) list c.0 name c.1 ((bytes_eq-Decides name (get_or list c.0 name)).1 (sym c.2))

pub has-from_absent : (list : List (List ℕ)) (name : List ℕ) → (Contains list name → ⊥) → has list name ≡ false
has-from_absent list name h = false_from_ne_true (has list name) (λ e. h (Contains-from_has list name e))

pub absent_from_has : (list : List (List ℕ)) (name : List ℕ) → has list name ≡ false → Contains list name → ⊥
absent_from_has list name e c = both_ways (has list name) e (has-from_Contains list name c)

-- distinct names: the first is not among the others
pub new_from_distinct : (name : List ℕ) (list : List (List ℕ)) → IsDistinct bytes_eq (name ∷ list) → Contains list name → ⊥
new_from_distinct name list d c =
    let apart = All-from_recursion (λ y. bytes_eq name y ≡ false) list (IsDistinct-head bytes_eq name list d) c.0 name c.1 in
    both_ways (bytes_eq name (get_or list c.0 name)) apart ((bytes_eq-Decides name (get_or list c.0 name)).1 (sym c.2))

pub distinct_from_new : (name : List ℕ) (list : List (List ℕ)) → (Contains list name → ⊥) → IsDistinct bytes_eq list → IsDistinct bytes_eq (name ∷ list)
distinct_from_new name list new d =
    IsDistinct-cons bytes_eq name list
    (recursion_from_All (λ y. bytes_eq name y ≡ false) list (λ k e lt. false_from_ne_true (bytes_eq name (get_or list k e)) (λ t. new (subst (λ z. Contains list z) (sym ((bytes_eq-Decides name (get_or list k e)).0 t)) (Contains-get_or list k e lt)))))
    d

pub distinct_rest : (name : List ℕ) (list : List (List ℕ)) → IsDistinct bytes_eq (name ∷ list) → IsDistinct bytes_eq list
distinct_rest name list d = IsDistinct-tail bytes_eq name list d

pub distinct_none : IsDistinct bytes_eq []
unfolding IsDistinct
distinct_none = tt

-- two lists end to end
pub IsDistinct-append : (xs ys : List (List ℕ)) → IsDistinct bytes_eq xs → IsDistinct bytes_eq ys → ((name : List ℕ) → Contains xs name → Contains ys name → ⊥) → IsDistinct bytes_eq (xs ++ ys)
IsDistinct-append [] ys d e apart = e
IsDistinct-append (x ∷ xs) ys d e apart =
    distinct_from_new x (xs ++ ys)
    (λ c. elim (Contains-append_cases xs ys x c) [
      | inl front ↦ new_from_distinct x xs d front
      | inr back ↦ apart x (Contains_first x xs) back
    ])
    (IsDistinct-append xs ys (distinct_rest x xs d) e (λ name c. apart name (Contains_later x name xs c)))

pub distinct_front : (xs ys : List (List ℕ)) → IsDistinct bytes_eq (xs ++ ys) → IsDistinct bytes_eq xs
distinct_front [] ys d = distinct_none
distinct_front (x ∷ xs) ys d =
    distinct_from_new x xs (λ c. new_from_distinct x (xs ++ ys) d (Contains-append_left xs ys x c))
    (distinct_front xs ys (distinct_rest x (xs ++ ys) d))

pub distinct_back : (xs ys : List (List ℕ)) → IsDistinct bytes_eq (xs ++ ys) → IsDistinct bytes_eq ys
distinct_back [] ys d = d
distinct_back (x ∷ xs) ys d = distinct_back xs ys (distinct_rest x (xs ++ ys) d)

pub distinct_apart : (xs ys : List (List ℕ)) → IsDistinct bytes_eq (xs ++ ys) → (name : List ℕ) → Contains xs name → Contains ys name → ⊥
distinct_apart [] ys d name c e = Contains_none name c
distinct_apart (x ∷ xs) ys d name c e =
    elim (Contains_cases x name xs c) [
      | inl same ↦ new_from_distinct x (xs ++ ys) d (Contains-append_right xs ys x (subst (λ z. Contains ys z) (sym same) e))
      | inr later ↦ distinct_apart xs ys (distinct_rest x (xs ++ ys) d) name later e
    ]

pub distinct-filter : (p : List ℕ → Bool) (xs : List (List ℕ)) → IsDistinct bytes_eq xs → IsDistinct bytes_eq (filter p xs)
distinct-filter p [] d = d
distinct-filter p (x ∷ xs) d =
    elim (p x) as (λ b. IsDistinct bytes_eq (cond b (x ∷ filter p xs) (filter p xs))) [
      | true ↦ distinct_from_new x (filter p xs) (λ c. new_from_distinct x xs d (filter-Contains p xs x c).0)
          (distinct-filter p xs (distinct_rest x xs d))
      | false ↦ distinct-filter p xs (distinct_rest x xs d)
    ]

-- counts: an absent name counts 0, and a distinct one at most 1
count_absent : {X : Type 0} (f : X → List ℕ) (xs : List X) (name : List ℕ) → (Contains (map f xs) name → ⊥) → count_by (λ x. bytes_eq name (f x)) xs ≡ 0
count_absent f [] name h = refl
count_absent f (x ∷ xs) name h =
    let differs : bytes_eq name (f x) ≡ false = false_from_ne_true (bytes_eq name (f x)) (λ e. h (subst (λ w. Contains (f x ∷ map f xs) w) (sym ((bytes_eq-Decides name (f x)).0 e)) (Contains_first (f x) (map f xs)))) in
    let rest = count_absent f xs name (λ c. h (Contains_later (f x) name (map f xs) c)) in
    sum_by-cons (λ y. cond (bytes_eq name (f y)) 1 0) x xs ∙ rw differs (omega arith)

count_distinct : {X : Type 0} (f : X → List ℕ) (xs : List X) (name : List ℕ) → IsDistinct bytes_eq (map f xs) → count_by (λ x. bytes_eq name (f x)) xs < 2
count_distinct f [] name d = omega arith
count_distinct f (x ∷ xs) name d =
    rw (sum_by-cons (λ y. cond (bytes_eq name (f y)) 1 0) x xs)
    (elim (bytes_eq name (f x)) as (λ b. bytes_eq name (f x) ≡ b → cond b 1 0 + count_by (λ y. bytes_eq name (f y)) xs < 2) [
      | true ↦ λ e.
          let same = (bytes_eq-Decides name (f x)).0 e in
          let none = count_absent f xs name (λ c. new_from_distinct (f x) (map f xs) d (subst (λ w. Contains (map f xs) w) same c)) in
          omega arith
      | false ↦ λ e. let rest = count_distinct f xs name (distinct_rest (f x) (map f xs) d) in omega arith
    ] refl)

pub once_by : {X : Type 0} (f : X → List ℕ) (xs : List X) (name : List ℕ) → IsDistinct bytes_eq (map f xs) → nat_le 2 (count_by (λ x. bytes_eq name (f x)) xs) ≡ false
once_by f xs name d = lt-leb 2 (count_by (λ x. bytes_eq name (f x)) xs) (count_distinct f xs name d)

pub once : (list : List (List ℕ)) (name : List ℕ) → IsDistinct bytes_eq list → is_twice list name ≡ false
once list name d = once_by (λ x. x) list name (subst (λ l. IsDistinct bytes_eq l) (sym (map-id list)) d)
