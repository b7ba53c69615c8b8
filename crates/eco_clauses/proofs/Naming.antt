-- The literals of listed names, and new ones: which they are, and that they are within.
use Rattle.std.proofs.Common.{◌≡◌, ◌≢◌, ◌⊎◌, inl, inr, ℕ, ◌+◌, ◌<◌, ◌≤◌, Bool, true, false, not, cond, List, [], ◌∷◌, ◌++◌, length, map, drop, refl, append_assoc, sym, ◌∙◌, ap, subst, arith}
use Rattle.std.specs.List.{All, Contains, IsDistinct, position_or_len}
use Rattle.std.specs.Str.{bytes_eq}
use Rattle.std.proofs.lemmas.Bool.{false≢true, false_from_ne_true}
use Rattle.std.proofs.lemmas.List.{at_drop_more}
use Rattle.std.proofs.lemmas.List.Elements.{All-nil, All-cons, All-map}
use Rattle.eco_lists.proofs.Members.{Contains_cases, Contains_none}
use Rattle.eco_lists.proofs.Names.{same_name, bytes_eq-same}
use Rattle.eco_lists.proofs.Places.{map_agree, Contains_at, All_from_places}
use Rattle.eco_netlist.proofs.NameSets.{new_from_distinct, distinct_rest}
use Rattle.eco_trace.specs.declared.clause.Lit.{Lit}
use Rattle.eco_trace.specs.Clauses.{IsVarWithin}
use Rattle.eco_clauses.specs.Listing.{numbered}
use Rattle.eco_clauses.specs.Numbering.{listed_literal, new_literals}

-- ---- the literals of listed names
-- the place of a name behind the first one
pub place_later : (x y : List ℕ) (list : List (List ℕ)) → y ≢ x → position_or_len (bytes_eq y) (x ∷ list) ≡ 1 + position_or_len (bytes_eq y) list
place_later x y list ne =
    ap (λ b. cond (not b) (1 + position_or_len (bytes_eq y) list) 0) (false_from_ne_true (bytes_eq y x) (λ e. ne (same_name y x e)))

pub place_first : (x : List ℕ) (list : List (List ℕ)) → position_or_len (bytes_eq x) (x ∷ list) ≡ 0
place_first x list = ap (λ b. cond (not b) (1 + position_or_len (bytes_eq x) list) 0) (bytes_eq-same x)

pub listed_later : (used : ℕ) (x y : List ℕ) (list : List (List ℕ)) → y ≢ x → listed_literal (used + 1) list y ≡ listed_literal used (x ∷ list) y
listed_later used x y list ne =
    let place = place_later x y list ne in
    let same : used + 1 + 1 + position_or_len (bytes_eq y) list ≡ used + 1 + position_or_len (bytes_eq y) (x ∷ list) = omega (arith, place) in
    ap numbered same

pub listed_first : (used : ℕ) (x : List ℕ) (list : List (List ℕ)) → numbered (used + 1) ≡ listed_literal used (x ∷ list) x
listed_first used x list =
    let place = place_first x list in
    let same : used + 1 ≡ used + 1 + position_or_len (bytes_eq x) (x ∷ list) = omega (arith, place) in
    ap numbered same

-- new literals, one for each name of a list, are those of the listed names
pub new_listed : (used : ℕ) (list : List (List ℕ)) → IsDistinct bytes_eq list → new_literals used list ≡ map (listed_literal used list) list
new_listed used [] distinct = refl
new_listed used (x ∷ list) distinct =
    ap (λ ls. numbered (used + 1) ∷ ls) (new_listed (used + 1) list (distinct_rest x list distinct))
    ∙ ap (λ ls. numbered (used + 1) ∷ ls) (map_agree (listed_literal (used + 1) list) (listed_literal used (x ∷ list)) list (λ k y at. listed_later used x y list (λ same. new_from_distinct x list distinct (subst (Contains list) same (Contains_at list k y at)))))
    ∙ ap (λ l. l ∷ map (listed_literal used (x ∷ list)) list) (listed_first used x list)

-- there are as many as the list has elements, whatever these are
pub new-map : {X Y : Type 0} (f : X → Y) (used : ℕ) (xs : List X) → new_literals used (map f xs) ≡ new_literals used xs
new-map f used [] = refl
new-map f used (x ∷ xs) = ap (λ ls. numbered (used + 1) ∷ ls) (new-map f (used + 1) xs)

-- one more new literal
pub new_step : {X : Type 0} (xs : List X) (k : ℕ) (d : X) (used vars : ℕ) (lits new all : List Lit) (l : Lit) → k < length xs → lits ++ new_literals used (drop k xs) ≡ all → l ≡ numbered (used + 1) → vars ≡ used + 1 → new ≡ lits ++ l ∷ [] → new ++ new_literals vars (drop (k + 1) xs) ≡ all
new_step xs k d used vars lits new all l lt before literal more is =
    ap (λ ls. ls ++ new_literals vars (drop (k + 1) xs)) is
    ∙ append_assoc lits (l ∷ []) (new_literals vars (drop (k + 1) xs))
    ∙ ap (λ x. lits ++ x ∷ new_literals vars (drop (k + 1) xs)) literal
    ∙ ap (λ v. lits ++ numbered (used + 1) ∷ new_literals v (drop (k + 1) xs)) more
    ∙ sym (at_drop_more (λ rest. lits ++ new_literals used rest) xs k d lt)
    ∙ before

-- ---- that they are within
-- a name of a list has a place in it
pub place_within : (name : List ℕ) (list : List (List ℕ)) → Contains list name → position_or_len (bytes_eq name) list < length list
place_within name [] c = absurd (Contains_none name c)
place_within name (x ∷ list) c =
    by (bytes_eq name x) refl (elim (Contains_cases x name list c) [ inl same ↦ inl (sym same) | inr later ↦ inr (place_within name list later) ])
  where
    by : (b : Bool) → bytes_eq name x ≡ b → (name ≡ x) ⊎ (position_or_len (bytes_eq name) list < length list) → cond (not b) (1 + position_or_len (bytes_eq name) list) 0 < length (x ∷ list)
    by true e either = omega arith
    by false e (inl same) = absurd (false≢true (sym e ∙ ap (bytes_eq name) (sym same) ∙ bytes_eq-same name))
    by false e (inr lt) = omega (arith, lt)

pub listed_within : (vars used : ℕ) (list : List (List ℕ)) (name : List ℕ) → Contains list name → used + length list ≤ vars → IsVarWithin vars (listed_literal used list name)
listed_within vars used list name c room =
    let lt = place_within name list c in
    record { first = omega arith; last = omega (arith, lt, room) }

-- the literals of names of nets
pub all_within : (vars now : ℕ) (literal : List ℕ → Lit) (list : List (List ℕ)) (lits : List Lit) → ((name : List ℕ) → Contains list name → IsVarWithin vars (literal name)) → vars ≤ now → lits ≡ map literal list → All (IsVarWithin now) lits
all_within vars now literal list lits each le is =
    subst (All (IsVarWithin now)) (sym is) (All-map (IsVarWithin now) literal list (All_from_places (λ name. IsVarWithin now (literal name)) list (λ k name at.
    let here = each name (Contains_at list k name at) in
    let first = here.first in
    let last = here.last in
    record { first = first; last = omega (arith, last, le) })))

-- new literals are within what is used then
pub new_within : {X : Type 0} (used now : ℕ) (xs : List X) → used + length xs ≤ now → All (IsVarWithin now) (new_literals used xs)
new_within used now [] room = All-nil (IsVarWithin now)
new_within used now (x ∷ xs) room =
    All-cons (IsVarWithin now) (numbered (used + 1)) (new_literals (used + 1) xs) (record { first = omega arith; last = omega (arith, room) }) (new_within (used + 1) now xs (omega (arith, room)))
