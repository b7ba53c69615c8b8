-- Names in lists: each stands there or doesn't.
use Rattle.std.proofs.Common.{◌≡◌, ◌≢◌, ◌⊎◌, ◌≤◌, inl, inr, ℕ, true, List, [], ◌∷◌, length, get_or, sym, ◌∙◌, subst}
use Rattle.std.specs.List.{AllPairs, Contains, list_any}
use Rattle.std.specs.Str.{bytes_eq}
use Rattle.std.proofs.lemmas.Bool.{cases_Bool, false≢true}
use Rattle.std.proofs.lemmas.List.Folds.{list_any_at}
use Rattle.std.proofs.lemmas.Map.Made.{IsDistinct-from_AllPairs, length-le_from_is_member}
use Rattle.std.proofs.lemmas.Map.Views.{Contains-from_any}
use Rattle.eco_lists.proofs.Names.{bytes_eq_equiv}
use Rattle.std.proofs.lemmas.Slice.Eq.{bytes_eq-Decides}
use Rattle.eco_lists.proofs.Members.{Contains_first, Contains_later, Contains_cases, Contains_none}

-- two names are one or differ
pub cases_names : (a b : List ℕ) → (a ≡ b) ⊎ (a ≢ b)
cases_names a b =
    elim (cases_Bool (bytes_eq a b)) [
      | inl same ↦ inl ((bytes_eq-Decides a b).0 same)
      | inr other ↦ inr (λ same. false≢true (sym other ∙ (bytes_eq-Decides a b).1 same))
    ]

-- the list has the name or not
pub cases_member : (list : List (List ℕ)) (name : List ℕ) → Contains list name ⊎ (Contains list name → ⊥)
cases_member [] name = inr (Contains_none name)
cases_member (first ∷ list) name =
    elim (cases_names first name) [
      | inl same ↦ inl (subst (Contains (first ∷ list)) same (Contains_first first list))
      | inr differ ↦ elim (cases_member list name) [
        | inl later ↦ inl (Contains_later first name list later)
        | inr none ↦ inr (λ c. elim (Contains_cases first name list c) [ inl same ↦ differ same | inr later ↦ none later ])
      ]
    ]

-- the test tells
pub has-from_Contains : (list : List (List ℕ)) (name : List ℕ) → Contains list name → list_any (bytes_eq name) list ≡ true
has-from_Contains list name c =
    list_any_at (bytes_eq name) list c.0 name c.1 ((bytes_eq-Decides name (get_or list c.0 name)).1 (sym c.2))

-- different names of a list are no more than its names
pub few_names : (list all : List (List ℕ)) → AllPairs (λ a b. a ≢ b) list → ((name : List ℕ) → Contains list name → Contains all name) → length list ≤ length all
few_names list all apart within =
    length-le_from_is_member bytes_eq_equiv list all (IsDistinct-from_AllPairs bytes_eq-Decides list apart)
    (λ name is. has-from_Contains all name (within name (Contains-from_any (λ x y. (bytes_eq-Decides x y).0) name list is)))
