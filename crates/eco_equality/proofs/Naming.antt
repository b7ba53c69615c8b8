-- The literals of nets, name by name.
use Rattle.std.proofs.Common.{◌≡◌, ◌≢◌, ℕ, zero, suc, ◌+◌, ◌<◌, Bool, true, false, not, ◌||◌, cond, List, [], ◌∷◌, ◌++◌, Option, Some, None, length, map, set, filter, replicate, take, get_or, refl, sym, ◌∙◌, ap, subst, arith}
use Rattle.std.specs.List.{slice_get, All, Contains, IsDistinct}
use Rattle.std.specs.Str.{bytes_eq}
use Rattle.std.proofs.lemmas.Bool.{false_from_ne_true}
use Rattle.std.proofs.lemmas.List.{length-map, get_or-map, map-append, take_more}
use Rattle.std.proofs.lemmas.List.Elements.{Contains-push}
use Rattle.std.proofs.lemmas.List.Folds.{list_any-append}
use Rattle.std.proofs.lemmas.Option.{none-some, same_Some, slice_get-get_or, get_or_from_slice_get}
use Rattle.std.proofs.Math.Bool.{or-false}
use Rattle.eco_lists.proofs.Names.{same_name}
use Rattle.eco_lists.proofs.Places.{map_agree, Contains_at}
use Rattle.eco_netlist.proofs.NameSets.{has-from_Contains, new_from_distinct, distinct_rest}
use Rattle.eco_meaning.specs.Names.{has}
use Rattle.eco_gates.specs.declared.gate.NetId.{NetId}
use Rattle.eco_netlist.specs.Netlists.{name_at, names_at, AreNets}
use Rattle.eco_trace.specs.declared.clause.Lit.{Lit}
use Rattle.eco_clauses.specs.Listing.{numbered}
use Rattle.eco_clauses.specs.Numbering.{listed_literal}
use Rattle.eco_clauses.proofs.Naming.{listed_first, listed_later}
use Rattle.eco_equality.specs.Numbers.{given_literal, filled_literals, open_places}

-- ---- which literals are given
-- a list has one name more
has_more : (list : List (List ℕ)) (x : List ℕ) → has (list ++ x ∷ []) x ≡ true
has_more list x = has-from_Contains (list ++ x ∷ []) x (Contains-push list x)

has_other : (list : List (List ℕ)) (x y : List ℕ) → y ≢ x → has (list ++ x ∷ []) y ≡ has list y
has_other list x y ne =
    let none : bytes_eq y x ≡ false = false_from_ne_true (bytes_eq y x) (λ e. ne (same_name y x e)) in
    list_any-append (bytes_eq y) list (x ∷ []) ∙ ap (λ b. has list y || (b || false)) none ∙ or-false (has list y)

given_other : (shared : List ℕ → Lit) (list : List (List ℕ)) (x y : List ℕ) → y ≢ x → given_literal shared list y ≡ given_literal shared (list ++ x ∷ []) y
given_other shared list x y ne = ap (λ b. cond b (Some (shared y)) None) (sym (has_other list x y ne))

given_here : (shared : List ℕ → Lit) (list : List (List ℕ)) (x y : List ℕ) → y ≡ x → Some (shared x) ≡ given_literal shared (list ++ x ∷ []) y
given_here shared list x y same =
    ap (λ b. cond b (Some (shared x)) None) (sym (has_more list x)) ∙ ap (given_literal shared (list ++ x ∷ [])) (sym same)

-- one more input is given its literal
pub given_more : (shared : List ℕ → Lit) (list all : List (List ℕ)) (x : List ℕ) (net : ℕ) → IsDistinct bytes_eq all → slice_get all net ≡ Some x → set (map (given_literal shared list) all) net (Some (shared x)) ≡ map (given_literal shared (list ++ x ∷ [])) all
given_more shared list [] x net distinct at = absurd (none-some x at)
given_more shared list (y ∷ all) x zero distinct at =
    let here : y ≡ x = same_Some y x at in
    let rest : map (given_literal shared list) all ≡ map (given_literal shared (list ++ x ∷ [])) all =
    map_agree (given_literal shared list) (given_literal shared (list ++ x ∷ [])) all (λ k z at_z.
    given_other shared list x z (λ same. new_from_distinct y all distinct (subst (Contains all) (same ∙ sym here) (Contains_at all k z at_z)))) in
    ap (λ zs. Some (shared x) ∷ zs) rest ∙ ap (λ o. o ∷ map (given_literal shared (list ++ x ∷ [])) all) (given_here shared list x y here)
given_more shared list (y ∷ all) x (suc net) distinct at =
    let ne : y ≢ x = λ same. new_from_distinct y all distinct (subst (Contains all) (sym same) (Contains_at all net x at)) in
    ap (λ zs. given_literal shared list y ∷ zs) (given_more shared list all x net (distinct_rest y all distinct) at)
    ∙ ap (λ o. o ∷ map (given_literal shared (list ++ x ∷ [])) all) (given_other shared list x y ne)

-- at first none is given
pub given_none : (shared : List ℕ → Lit) (all : List (List ℕ)) → replicate (length all) None ≡ map (given_literal shared []) all
given_none shared [] = refl
given_none shared (x ∷ all) = ap (λ os. None ∷ os) (given_none shared all)

-- ---- the literals of all nets
-- the names of a list that aren't among the inputs
abbrev pub inner_of : List (List ℕ) → List (List ℕ) → List (List ℕ)
inner_of inputs list = filter (λ name. not (has inputs name)) list

-- the literal of a name of a list: that of an input, or of the names that are none
abbrev pub literal_in : (List ℕ → Lit) → List (List ℕ) → ℕ → List (List ℕ) → List ℕ → Lit
literal_in shared inputs used list name = cond (has inputs name) (shared name) (listed_literal used (inner_of inputs list) name)

-- an input before the others changes nothing for them
behind_input : (shared : List ℕ → Lit) (inputs : List (List ℕ)) (used : ℕ) (x : List ℕ) (list : List (List ℕ)) (y : List ℕ) → has inputs x ≡ true → literal_in shared inputs used list y ≡ literal_in shared inputs used (x ∷ list) y
behind_input shared inputs used x list y input =
    ap (λ b. cond (has inputs y) (shared y) (listed_literal used (cond (not b) (x ∷ inner_of inputs list) (inner_of inputs list)) y)) (sym input)

-- another net takes the next number
behind_inner : (shared : List ℕ → Lit) (inputs : List (List ℕ)) (used : ℕ) (x : List ℕ) (list : List (List ℕ)) (y : List ℕ) → has inputs x ≡ false → y ≢ x → literal_in shared inputs (used + 1) list y ≡ literal_in shared inputs used (x ∷ list) y
behind_inner shared inputs used x list y inner ne =
    ap (cond (has inputs y) (shared y)) (listed_later used x y (inner_of inputs list) ne)
    ∙ ap (λ b. cond (has inputs y) (shared y) (listed_literal used (cond (not b) (x ∷ inner_of inputs list) (inner_of inputs list)) y)) (sym inner)

first_inner : (shared : List ℕ → Lit) (inputs : List (List ℕ)) (used : ℕ) (x : List ℕ) (list : List (List ℕ)) → has inputs x ≡ false → numbered (used + 1) ≡ literal_in shared inputs used (x ∷ list) x
first_inner shared inputs used x list inner =
    listed_first used x (inner_of inputs list)
    ∙ ap (λ b. cond b (shared x) (listed_literal used (cond (not b) (x ∷ inner_of inputs list) (inner_of inputs list)) x)) (sym inner)

first_input : (shared : List ℕ → Lit) (inputs : List (List ℕ)) (used : ℕ) (x : List ℕ) (list : List (List ℕ)) → has inputs x ≡ true → shared x ≡ literal_in shared inputs used (x ∷ list) x
first_input shared inputs used x list input =
    ap (λ b. cond b (shared x) (listed_literal used (inner_of inputs (x ∷ list)) x)) (sym input)

-- the literals that are filled in are those of the names
pub filled_names : (shared : List ℕ → Lit) (inputs : List (List ℕ)) (used : ℕ) (list : List (List ℕ)) → IsDistinct bytes_eq list → filled_literals used (map (given_literal shared inputs) list) ≡ map (literal_in shared inputs used list) list
filled_names shared inputs used [] distinct = refl
filled_names shared inputs used (x ∷ list) distinct =
    by (has inputs x) refl (filled_names shared inputs used list (distinct_rest x list distinct)) (filled_names shared inputs (used + 1) list (distinct_rest x list distinct))
  where
    new : (k : ℕ) (y : List ℕ) → slice_get list k ≡ Some y → y ≢ x
    new k y at same = new_from_distinct x list distinct (subst (Contains list) same (Contains_at list k y at))

    by : (b : Bool) → has inputs x ≡ b → filled_literals used (map (given_literal shared inputs) list) ≡ map (literal_in shared inputs used list) list → filled_literals (used + 1) (map (given_literal shared inputs) list) ≡ map (literal_in shared inputs (used + 1) list) list → filled_literals used (cond b (Some (shared x)) None ∷ map (given_literal shared inputs) list) ≡ map (literal_in shared inputs used (x ∷ list)) (x ∷ list)
    by true input rest rest' =
        ap (λ ls. shared x ∷ ls) (rest ∙ map_agree (literal_in shared inputs used list) (literal_in shared inputs used (x ∷ list)) list (λ k y at. behind_input shared inputs used x list y input))
        ∙ ap (λ l. l ∷ map (literal_in shared inputs used (x ∷ list)) list) (first_input shared inputs used x list input)
    by false inner rest rest' =
        ap (λ ls. numbered (used + 1) ∷ ls) (rest' ∙ map_agree (literal_in shared inputs (used + 1) list) (literal_in shared inputs used (x ∷ list)) list (λ k y at. behind_inner shared inputs used x list y inner (new k y at)))
        ∙ ap (λ l. l ∷ map (literal_in shared inputs used (x ∷ list)) list) (first_inner shared inputs used x list inner)

-- and there are as many new ones as names that are no inputs
pub open_inner : (shared : List ℕ → Lit) (inputs list : List (List ℕ)) → open_places (map (given_literal shared inputs) list) ≡ length (inner_of inputs list)
open_inner shared inputs [] = refl
open_inner shared inputs (x ∷ list) = by (has inputs x) (open_inner shared inputs list)
  where
    by : (b : Bool) → open_places (map (given_literal shared inputs) list) ≡ length (inner_of inputs list) → open_places (cond b (Some (shared x)) None ∷ map (given_literal shared inputs) list) ≡ length (cond (not b) (x ∷ inner_of inputs list) (inner_of inputs list))
    by true rest = rest
    by false rest = omega (arith, rest)

-- ---- nets and their names
-- what stands at a place of a list of nets, by name
pub name_at_place : (list : List (List ℕ)) (nets : List NetId) (k : ℕ) (d : NetId) (name : List ℕ) → k < length nets → slice_get list (get_or nets k d).0 ≡ Some name → get_or (names_at list nets) k [] ≡ name
name_at_place list nets k d name lt at =
    get_or-map (λ (net : NetId). name_at list net.0) nets k d [] lt ∙ get_or_from_slice_get list (get_or nets k d).0 name [] at

-- so it is known where all are
pub known_name : (list others : List (List ℕ)) (nets : List NetId) (k : ℕ) (d : NetId) (name : List ℕ) → k < length nets → slice_get list (get_or nets k d).0 ≡ Some name → All (Contains others) (names_at list nets) → Contains others name
known_name list others nets k d name lt at all =
    let sizes = length-map nets (λ (net : NetId). name_at list net.0) in
    subst (Contains others) (name_at_place list nets k d name lt at) (all k [] (omega (arith, sizes, lt)))

-- one more literal by a name
pub found_more : (list : List (List ℕ)) (literal : List ℕ → Lit) (nets : List NetId) (k : ℕ) (d : NetId) (name : List ℕ) (found new : List Lit) (l : Lit) → k < length nets → slice_get list (get_or nets k d).0 ≡ Some name → found ≡ map literal (names_at list (take k nets)) → l ≡ literal name → new ≡ found ++ l ∷ [] → new ≡ map literal (names_at list (take (k + 1) nets))
found_more list literal nets k d name found new l lt at before this is =
    let here : name_at list (get_or nets k d).0 ≡ name = get_or_from_slice_get list (get_or nets k d).0 name [] at in
    is ∙ ap (λ ls. ls ++ l ∷ []) before
    ∙ ap (λ x. map literal (names_at list (take k nets)) ++ x ∷ []) (this ∙ ap literal (sym here))
    ∙ sym (ap (λ ns. map literal (names_at list ns)) (take_more nets k d lt)
    ∙ ap (map literal) (map-append (λ (net : NetId). name_at list net.0) (take k nets) (get_or nets k d ∷ []))
    ∙ map-append literal (names_at list (take k nets)) (name_at list (get_or nets k d).0 ∷ []))

-- one more input's net is given its literal
pub given_step : (all inputs : List (List ℕ)) (nets : List NetId) (lits : List Lit) (shared : List ℕ → Lit) (k : ℕ) (net : NetId) (l : Lit) (given : List (Option Lit)) → IsDistinct bytes_eq all → names_at all nets ≡ inputs → AreNets all nets → k < length nets → lits ≡ map shared inputs → given ≡ map (given_literal shared (take k inputs)) all → set given (get_or nets k net).0 (Some (get_or lits k l)) ≡ map (given_literal shared (take (k + 1) inputs)) all
given_step all inputs nets lits shared k net l given distinct named within lt literals before =
    let n = (get_or nets k net).0 in
    let x = name_at all n in
    let at : slice_get all n ≡ Some x = slice_get-get_or all n [] (within k net lt) in
    let here : get_or inputs k [] ≡ x = ap (λ list. get_or list k []) (sym named) ∙ name_at_place all nets k net x lt at in
    let sizes = length-map nets (λ (net : NetId). name_at all net.0) in
    let room : k < length inputs = (let same = ap length named in omega (arith, sizes, same, lt)) in
    let written : get_or lits k l ≡ shared x = ap (λ ls. get_or ls k l) literals ∙ get_or-map shared inputs k [] l room ∙ ap shared here in
    ap (λ (g : List (Option Lit)). set g n (Some (get_or lits k l))) before
    ∙ ap (λ y. set (map (given_literal shared (take k inputs)) all) n (Some y)) written
    ∙ given_more shared (take k inputs) all x n distinct at
    ∙ ap (λ list. map (given_literal shared list) all) (ap (λ y. take k inputs ++ y ∷ []) (sym here) ∙ sym (take_more inputs k [] room))
