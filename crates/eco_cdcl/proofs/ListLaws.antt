-- Watch lists: what changes where one of them does.
use Rattle.std.proofs.Common.{◌≡◌, ℕ, zero, suc, ◌<◌, ◌≤◌, ◌-◌, List, [], ◌∷◌, length, get_or, set, map, take, slice_get, swap_remove, Some, inl, inr, ◌⊎◌, refl, sym, ap, ◌∙◌, subst, arith, All}
use Rattle.std.proofs.lemmas.Bool.{cases_eq, cases_lt}
use Rattle.std.proofs.lemmas.List.{map-set, length-map, length-set, get_or-map, get_or-set_same, get_or-set_other, length-take}
use Rattle.std.proofs.lemmas.Option.{slice_get-get_or, slice_get_within}
use Rattle.eco_lists.proofs.Places.{slice_get-take, slice_get-set_same, slice_get-set_other, place_in_front, set_cases, Contains_at, place_of}
use Rattle.eco_trace.specs.declared.clause.Lit.{Lit}
use Rattle.eco_cdcl.specs.Entries.{Watch, code_of, list_of, IsChanged, IsTakenOut}

-- a list as it was read
pub read_list : {V : Type 0} (f : V → List Watch) (old : List (List Watch)) (xs : List V) (x : Lit) (k : ℕ) (v : V) → map f xs ≡ old → k ≡ code_of x → code_of x < length old → v ≡ get_or xs k v → list_of old x ≡ f v
read_list {V} f old xs x k v view at within read =
    let long : length old ≡ length xs = ap length (sym view) ∙ length-map xs f in
    ap (λ l. get_or l (code_of x) []) (sym view)
    ∙ ap (λ n. get_or (map f xs) n []) (sym at)
    ∙ get_or-map f xs k v [] (omega arith)
    ∙ ap f (sym read)

-- one list was written anew
pub changed : {V : Type 0} (f : V → List Watch) (old : List (List Watch)) (xs ys : List V) (x : Lit) (k : ℕ) (v w : V) (How : List Watch → List Watch → Type 0) → map f xs ≡ old → k ≡ code_of x → code_of x < length old → v ≡ get_or xs k v → ys ≡ set xs k w → How (f v) (f w) → IsChanged old (map f ys) x How
changed {V} f old xs ys x k v w How view at within read wrote how =
    let long : length old ≡ length xs = ap length (sym view) ∙ length-map xs f in
    let new : map f ys ≡ set old (code_of x) (f w) = ap (map f) wrote ∙ map-set f xs k w ∙ ap (λ l. set l k (f w)) view ∙ ap (λ n. set old n (f w)) at in
    let here_old : list_of old x ≡ f v = read_list f old xs x k v view at within read in
    let here_new : list_of (map f ys) x ≡ f w =
    ap (λ l. get_or l (code_of x) []) new ∙ get_or-set_same old (code_of x) (f w) [] within
    in
    record {
      count = ap length new ∙ length-set old (code_of x) (f w);
      here = subst (λ l. How l (list_of (map f ys) x)) (sym here_old) (subst (λ l. How (f v) l) (sym here_new) how);
      others = λ y ne. ap (λ l. get_or l (code_of y) []) new ∙ get_or-set_other old (code_of x) (code_of y) (f w) [] ne;
    }

-- what is left where an entry is taken out and the last one comes into its place
pub taken_out : (list : List Watch) (at : ℕ) (d : Watch) → at < length list → IsTakenOut at list (swap_remove list at d)
taken_out list at d within =
    let n : ℕ = length list - 1 in
    let wrote : List Watch = set list at (get_or list n d) in
    let long : length wrote ≡ length list = length-set list at (get_or list n d) in
    let last : slice_get list n ≡ Some (get_or list n d) = slice_get-get_or list n d (omega arith) in
    record {
      shorter = let short : length (take n wrote) ≡ n = grind (arith, length-take, long) in omega arith;
      front = λ k lt.
          elim (cases_lt k n) [
            | inl below ↦
                let item : slice_get list k ≡ Some (get_or list k d) = slice_get-get_or list k d (omega arith) in
                slice_get-take n wrote k (get_or list k d) below (slice_get-set_other list at k (get_or list n d) (λ e. absurd (omega (arith, e, lt))) ∙ item) ∙ sym item
            | inr ge ↦ absurd (omega arith)
          ];
      behind = λ k w lt e.
          let inside : k < length list = slice_get_within list k w e in
          elim (cases_lt k n) [
            | inl below ↦ (k, omega arith, slice_get-take n wrote k w below (slice_get-set_other list at k (get_or list n d) (λ e. absurd (omega (arith, e, lt))) ∙ e))
            | inr ge ↦
                let is : k ≡ n = omega arith in
                let same : Some (get_or list n d) ≡ Some w = sym last ∙ ap (slice_get list) (sym is) ∙ e in
                (at, omega arith, slice_get-take n wrote at w (omega arith) (slice_get-set_same list at (get_or list n d) within ∙ same))
          ];
      members = λ w c.
          let place = place_of (take n wrote) w c in
          let front = place_in_front n wrote place.0 w place.1 in
          elim (set_cases list at (get_or list n d) place.0 w front.1) [
            | inl new ↦ Contains_at list n w (last ∙ ap Some (sym new.1))
            | inr old ↦ Contains_at list place.0 w old.1
          ];
    }

-- a list of one of these literals is as it was or changed so
pub changed_at : (old new : List (List Watch)) (x : Lit) (How : List Watch → List Watch → Type 0) → IsChanged old new x How → (y : Lit) → (list_of new y ≡ list_of old y) ⊎ How (list_of old y) (list_of new y)
changed_at old new x How h y =
    elim (cases_eq (code_of y) (code_of x)) [
      | inr ne ↦ inl (h.others y ne)
      | inl e ↦ inr (subst (λ (n : ℕ). How (get_or old n []) (get_or new n [])) (sym e) h.here)
    ]

-- lists that are all empty
pub none_listed : {V : Type 0} (f : V → List Watch) (xs : List V) → All (λ v. f v ≡ []) xs → (x : Lit) → list_of (map f xs) x ≡ []
none_listed {V} f xs all x =
    let lists : List (List Watch) = map f xs in
    elim (cases_lt (code_of x) (length xs)) [
      | inr ge ↦ past lists (code_of x) (let long : length lists ≡ length xs = length-map xs f in omega arith)
      | inl lt ↦ inside xs (code_of x) all lt
    ]
  where
    past : (l : List (List Watch)) (n : ℕ) → length l ≤ n → get_or l n [] ≡ []
    past [] n le = refl
    past (y ∷ l) zero le = absurd (omega arith)
    past (y ∷ l) (suc n) le = past l n (omega arith)

    inside : (ys : List V) (n : ℕ) → All (λ v. f v ≡ []) ys → n < length ys → get_or (map f ys) n [] ≡ []
    inside [] n a lt = absurd (omega arith)
    inside (y ∷ ys) zero a lt = a 0 y (omega arith)
    inside (y ∷ ys) (suc n) a lt = inside ys n (λ k d within. a (suc k) d (omega arith)) (omega arith)
