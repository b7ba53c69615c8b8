-- A list of names and bytes, read as a finite map: where a name stands in the list, and what a change of it makes of the map.
use Rattle.std.proofs.Common.{◌≡◌, ℕ, zero, suc, ◌+◌, ◌<◌, ◌≤◌, Bool, true, false, cond, not, List, [], ◌∷◌, ◌++◌, map, length, get_or, set, Option, Some, None, position, refl, sym, ◌∙◌, ap, arith}
use Rattle.std.specs.List.{prefix_len}
use Rattle.std.specs.Ordering.{nat_cmp, eq_by_cmp}
use Rattle.std.specs.Cmp.{eq_by_cmp_equiv}
use Rattle.std.specs.Cmp.Lexicographic.{slice_cmp, nat_list_cmp_total, texts_ties}
use Rattle.std.specs.Str.{bytes_eq}
use Rattle.std.proofs.lemmas.Slice.Eq.{bytes_eq-Decides}
use Rattle.std.specs.FinMap.{find, get, insert, from_entries, get-from_entries, get-insert, same_map, from_entries_push, slice_cmp-IsAntisymmetric, nat_cmp-IsAntisymmetric}
use Rattle.std.proofs.lemmas.Bool.Decides.{nat_tests}
use Rattle.std.proofs.lemmas.List.Quantifiers.{position-Some}
use Rattle.std.proofs.lemmas.List.{map-append}

-- to compare by bytes is to compare in the map's order, whichever side comes first
same_test : (known name : List ℕ) → bytes_eq known name ≡ eq_by_cmp (slice_cmp nat_cmp) name known
same_test known name = texts_ties known name ∙ (eq_by_cmp_equiv nat_list_cmp_total).symm known name

tested_twice : {A : Type 0} (b : Bool) (x y z : A) → cond b x z ≡ cond b x (cond b y z)
tested_twice true x y z = refl
tested_twice false x y z = refl

-- of two tests that don't both pass, either may come first
swapped : {A : Type 0} (a b : Bool) (x y z : A) → (a ≡ true → b ≡ true → ⊥) → cond a x (cond b y z) ≡ cond b y (cond a x z)
swapped true true x y z apart = absurd (apart refl refl)
swapped true false x y z apart = refl
swapped false b x y z apart = refl

module _ {T : Type 0} (key value : T → List ℕ) where
  abbrev pub pair : T → List ℕ × List ℕ
  pair t = (key t, value t)

  -- where a name stands first, there is what the map has under it
  find_at : (name : List ℕ) (xs : List T) (place : ℕ) (d : T) → place < length xs → bytes_eq (key (get_or xs place d)) name ≡ true
      → ((k : ℕ) → k < place → bytes_eq (key (get_or xs k d)) name ≡ false) → find (slice_cmp nat_cmp) name (map pair xs) ≡ Some (value (get_or xs place d))
  find_at name [] place d inside here before = absurd (omega arith)
  find_at name (x ∷ xs) zero d inside here before =
      ap (λ b. cond b (Some (value x)) (find (slice_cmp nat_cmp) name (map pair xs))) (sym (same_test (key x) name) ∙ here)
  find_at name (x ∷ xs) (suc place) d inside here before =
      ap (λ b. cond b (Some (value x)) (find (slice_cmp nat_cmp) name (map pair xs))) (sym (same_test (key x) name) ∙ before 0 (omega arith))
      ∙ find_at name xs place d (omega arith) here (λ k below. before (suc k) (omega arith))

  -- a name that stands nowhere is not found
  find_past : (name : List ℕ) (xs : List T) → length xs ≤ prefix_len (λ t. not (bytes_eq (key t) name)) xs → find (slice_cmp nat_cmp) name (map pair xs) ≡ None
  find_past name [] past = refl
  find_past name (x ∷ xs) past =
      elim (bytes_eq (key x) name) as (λ b. bytes_eq (key x) name ≡ b → suc (length xs) ≤ cond (not b) (1 + prefix_len (λ t. not (bytes_eq (key t) name)) xs) 0 → find (slice_cmp nat_cmp) name (map pair (x ∷ xs)) ≡ None) [
        | true ↦ λ is far. absurd (omega arith)
        | false ↦ λ is far.
            ap (λ b. cond b (Some (value x)) (find (slice_cmp nat_cmp) name (map pair xs))) (sym (same_test (key x) name) ∙ is) ∙ find_past name xs (omega arith)
      ] refl past

  past_none : (test : T → Bool) (xs : List T) → position test xs ≡ None → length xs ≤ prefix_len (λ t. not (test t)) xs
  past_none test xs none = grind (arith, nat_tests)

  -- another item at the place where its name stands first: each look-up for that name gives the new value, all others stay
  find_set : (q : List ℕ) (t : T) (xs : List T) (place : ℕ) (d : T) → place < length xs → bytes_eq (key (get_or xs place d)) (key t) ≡ true
      → ((k : ℕ) → k < place → bytes_eq (key (get_or xs k d)) (key t) ≡ false)
      → find (slice_cmp nat_cmp) q (map pair (set xs place t)) ≡ cond (eq_by_cmp (slice_cmp nat_cmp) q (key t)) (Some (value t)) (find (slice_cmp nat_cmp) q (map pair xs))
  find_set q t [] place d inside here before = absurd (omega arith)
  find_set q t (x ∷ xs) zero d inside here before =
      tested_twice (eq_by_cmp (slice_cmp nat_cmp) q (key t)) (Some (value t)) (Some (value x)) (find (slice_cmp nat_cmp) q (map pair xs))
      ∙ ap (λ (name : List ℕ). cond (eq_by_cmp (slice_cmp nat_cmp) q (key t)) (Some (value t)) (cond (eq_by_cmp (slice_cmp nat_cmp) q name) (Some (value x)) (find (slice_cmp nat_cmp) q (map pair xs))))
      (sym ((bytes_eq-Decides (key x) (key t)).0 here))
  find_set q t (x ∷ xs) (suc place) d inside here before =
      ap (λ (o : Option (List ℕ)). cond (eq_by_cmp (slice_cmp nat_cmp) q (key x)) (Some (value x)) o) (find_set q t xs place d (omega arith) here (λ k below. before (suc k) (omega arith)))
      ∙ swapped (eq_by_cmp (slice_cmp nat_cmp) q (key x)) (eq_by_cmp (slice_cmp nat_cmp) q (key t)) (Some (value x)) (Some (value t)) (find (slice_cmp nat_cmp) q (map pair xs))
      (λ one other.
      let q_is_x = (bytes_eq-Decides (key x) q).0 (same_test (key x) q ∙ one) in
      let q_is_t = (bytes_eq-Decides (key t) q).0 (same_test (key t) q ∙ other) in
      let differ = before 0 (omega arith) in
      let agree : bytes_eq (key x) (key t) ≡ true = (bytes_eq-Decides (key x) (key t)).1 (q_is_x ∙ sym q_is_t) in
      cc)

  -- what a look-up finds is what the map has
  pub get_at : (name : List ℕ) (xs : List T) (place : ℕ) (d : T) → position (λ t. bytes_eq (key t) name) xs ≡ Some place
      → get (from_entries {R = slice_cmp nat_cmp} (map pair xs)) name ≡ Some (value (get_or xs place d))
  get_at name xs place d is =
      let first = position-Some (λ t. bytes_eq (key t) name) xs place d is in
      get-from_entries nat_list_cmp_total (map pair xs) name ∙ find_at name xs place d first.0 first.1 first.2

  pub get_past : (name : List ℕ) (xs : List T) → position (λ t. bytes_eq (key t) name) xs ≡ None → get (from_entries {R = slice_cmp nat_cmp} (map pair xs)) name ≡ None
  get_past name xs none = get-from_entries nat_list_cmp_total (map pair xs) name ∙ find_past name xs (past_none (λ t. bytes_eq (key t) name) xs none)

  -- to put another item in the place of the first of its name is to insert it
  pub from_entries-set : (xs : List T) (t : T) (name bytes : List ℕ) → key t ≡ name → value t ≡ bytes → (place : ℕ) (d : T) → position (λ t'. bytes_eq (key t') name) xs ≡ Some place
      → from_entries {R = slice_cmp nat_cmp} (map pair (set xs place t)) ≡ insert (from_entries (map pair xs)) name bytes
  from_entries-set xs t name bytes named valued place d is =
      let first = position-Some (λ t'. bytes_eq (key t') (key t)) xs place d (ap (λ (n : List ℕ). position (λ t'. bytes_eq (key t') n) xs) named ∙ is) in
      same_map nat_list_cmp_total (slice_cmp-IsAntisymmetric nat_cmp-IsAntisymmetric) _ _ (λ q.
      get-from_entries nat_list_cmp_total (map pair (set xs place t)) q ∙ find_set q t xs place d first.0 first.1 first.2
      ∙ sym (get-insert nat_list_cmp_total (from_entries (map pair xs)) (key t) (value t) q
      ∙ ap (λ (o : Option (List ℕ)). cond (eq_by_cmp (slice_cmp nat_cmp) q (key t)) (Some (value t)) o) (get-from_entries nat_list_cmp_total (map pair xs) q)))
      ∙ (λ i. insert (from_entries (map pair xs)) (named i) (valued i))

  -- to push an item whose name is new is to insert it
  pub from_entries-push : (xs : List T) (t : T) (name bytes : List ℕ) → key t ≡ name → value t ≡ bytes → position (λ t'. bytes_eq (key t') name) xs ≡ None
      → from_entries {R = slice_cmp nat_cmp} (map pair (xs ++ t ∷ [])) ≡ insert (from_entries (map pair xs)) name bytes
  from_entries-push xs t name bytes named valued none =
      ap (λ (es : List (List ℕ × List ℕ)). from_entries {R = slice_cmp nat_cmp} es) (map-append pair xs (t ∷ []))
      ∙ (λ i. from_entries {R = slice_cmp nat_cmp} (map pair xs ++ (named i, valued i) ∷ []))
      ∙ from_entries_push nat_list_cmp_total (slice_cmp-IsAntisymmetric nat_cmp-IsAntisymmetric) (map pair xs) name bytes
      (find_past name xs (past_none (λ t'. bytes_eq (key t') name) xs none))
