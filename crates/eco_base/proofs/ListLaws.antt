-- Lists whose elements are all different.
use Rattle.std.proofs.Common.{◌≡◌, ◌≢◌, ℕ, zero, suc, inl, inr, List, [], ◌∷◌, ◌++◌, Some, length, map, drop, get_or, refl, sym, ap, subst, arith}
use Rattle.std.specs.List.{slice_get, AllPairs, Contains}
use Rattle.std.proofs.lemmas.List.Elements.{Contains-append_cases, Contains-get_or}
use Rattle.std.proofs.lemmas.Option.{same_Some, none-some}
use Rattle.eco_lists.proofs.Members.{Contains_first, Contains_later, AllPairs-tail, AllPairs-head}
use Rattle.eco_gates.specs.declared.gate.NetId.{NetId}
use Rattle.eco_netlist.specs.Netlists.{name_at, names_at}
use Rattle.eco_base.specs.Fronts.{column_at}

-- a list of different elements, with one before it that isn't among them
distinct_cons : {X : Type 0} (x : X) (xs : List X) → AllPairs (λ a b. a ≢ b) xs → ((y : X) → Contains xs y → x ≢ y) → AllPairs (λ a b. a ≢ b) (x ∷ xs)
distinct_cons x xs apart new zero zero d less within = absurd (omega arith)
distinct_cons x xs apart new zero (suc j) d less within = new (get_or xs j d) (Contains-get_or xs j d (omega arith))
distinct_cons x xs apart new (suc i) zero d less within = absurd (omega arith)
distinct_cons x xs apart new (suc i) (suc j) d less within = apart i j d (omega arith) (omega arith)

-- two lists of different elements that share none
pub distinct_join : {X : Type 0} (xs ys : List X) → AllPairs (λ a b. a ≢ b) xs → AllPairs (λ a b. a ≢ b) ys → ((x : X) → Contains xs x → Contains ys x → ⊥) → AllPairs (λ a b. a ≢ b) (xs ++ ys)
distinct_join [] ys first second none = second
distinct_join (x ∷ xs) ys first second none =
    distinct_cons x (xs ++ ys) (distinct_join xs ys (AllPairs-tail (λ a b. a ≢ b) x xs first) second (λ y in_first in_second. none y (Contains_later x y xs in_first) in_second))
    (λ y among same. elim (Contains-append_cases xs ys y among) [
      | inl in_first ↦ AllPairs-head (λ a b. a ≢ b) x xs first y in_first same
      | inr in_second ↦ none x (Contains_first x xs) (subst (Contains ys) (sym same) in_second)
    ])

-- what stands behind the first ones is different too
pub distinct_drop : {X : Type 0} (n : ℕ) (xs : List X) → AllPairs (λ a b. a ≢ b) xs → AllPairs (λ a b. a ≢ b) (drop n xs)
distinct_drop zero xs apart = apart
distinct_drop (suc n) [] apart = apart
distinct_drop (suc n) (x ∷ xs) apart = distinct_drop n xs (AllPairs-tail (λ a b. a ≢ b) x xs apart)

-- no list is empty that has a first element
no_first : {X : Type 0} (x : X) (xs : List X) → [] ≡ x ∷ xs → ⊥
no_first x xs same = let none : 0 ≡ suc (length xs) = ap length same in omega (arith, none)

-- the name of the net of a column is the one that stands there
pub name_of_column : (list : List (List ℕ)) (columns : List NetId) (column : ℕ) (name : List ℕ) → slice_get (names_at list columns) column ≡ Some name → name_at list (column_at columns column).0 ≡ name
name_of_column list [] column name at = absurd (none-some name at)
name_of_column list (net ∷ columns) zero name at = same_Some (name_at list net.0) name at
name_of_column list (net ∷ columns) (suc column) name at = name_of_column list columns column name at

-- the names of the nets of columns are those that stand there
pub names_of_columns : (list : List (List ℕ)) (columns : List NetId) (fixed : List ℕ) (named : List (List ℕ)) → map (slice_get (names_at list columns)) fixed ≡ map Some named → names_at list (map (column_at columns) fixed) ≡ named
names_of_columns list columns [] [] same = refl
names_of_columns list columns [] (name ∷ named) same = absurd (no_first (Some name) (map Some named) same)
names_of_columns list columns (column ∷ fixed) [] same = absurd (no_first (slice_get (names_at list columns) column) (map (slice_get (names_at list columns)) fixed) (sym same))
names_of_columns list columns (column ∷ fixed) (name ∷ named) same =
    let first : slice_get (names_at list columns) column ≡ Some name = cc in
    let rest : map (slice_get (names_at list columns)) fixed ≡ map Some named = cc in
    cc (name_of_column list columns column name first, names_of_columns list columns fixed named rest)
