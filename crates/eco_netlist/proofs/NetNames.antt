-- The names of nets, one more at a time.
use Rattle.std.proofs.Common.{◌≡◌, ℕ, zero, suc, ◌+◌, ◌-◌, ◌<◌, ◌≤◌, List, [], ◌∷◌, ◌++◌, Some, false, cond, length, get_or, take, drop, refl, sym, subst, ◌∙◌, ap, append_assoc, arith}
use Rattle.std.specs.Prelude.{option_map}
use Rattle.std.specs.List.{slice_get, All, Contains, IsDistinct}
use Rattle.std.specs.Str.{bytes_eq}
use Rattle.indexmap.specs.IndexSet.{insert_key}
use Rattle.std.proofs.lemmas.List.Elements.{All-map, Contains-get_or}
use Rattle.std.proofs.lemmas.List.{take_more, take-append-drop, get_or_default, map-append, get_or-append_right, length-append, length-map}
use Rattle.std.proofs.lemmas.Option.{slice_get_within, slice_get-map, slice_get-get_or, get_or_from_slice_get}
use Rattle.eco_gates.specs.declared.gate.NetId.{NetId}
use Rattle.eco_lists.proofs.Members.{Contains_first}
use Rattle.eco_lists.proofs.Places.{same_by_places}
use Rattle.eco_meaning.specs.Names.{has}
use Rattle.eco_netlist.specs.Netlists.{name_at, names_at, AreNets}
use Rattle.eco_netlist.proofs.NameSets.{has-from_absent, distinct_front, distinct_apart}

-- one more net
pub names_at_take : (list : List (List ℕ)) (nets : List NetId) (i : ℕ) (d : NetId) → i < length nets → names_at list (take (i + 1) nets) ≡ names_at list (take i nets) ++ name_at list (get_or nets i d).0 ∷ []
names_at_take list nets i d lt =
    ap (names_at list) (take_more nets i d lt) ∙ map-append (λ (n : NetId). name_at list n.0) (take i nets) (get_or nets i d ∷ [])

pub names_at_more : (list : List (List ℕ)) (nets : List NetId) (i : ℕ) (d : NetId) (name : List ℕ) → i < length nets → slice_get list (get_or nets i d).0 ≡ Some name → names_at list (take (i + 1) nets) ≡ names_at list (take i nets) ++ name ∷ []
names_at_more list nets i d name lt found =
    names_at_take list nets i d lt
    ∙ ap (λ z. names_at list (take i nets) ++ z ∷ []) (get_or_from_slice_get list (get_or nets i d).0 name [] found)

-- one more wire, which stands behind the ports
pub wires_more : (ports wires : List (List ℕ)) (net : ℕ) (name : List ℕ) → length ports ≤ net → slice_get (ports ++ wires) net ≡ Some name → take (net + 1 - length ports) wires ≡ take (net - length ports) wires ++ name ∷ []
wires_more ports wires net name le found =
    let within = slice_get_within (ports ++ wires) net name found in
    let lt : net - length ports < length wires = omega (arith, length-append ports wires) in
    let at : get_or wires (net - length ports) [] ≡ name = sym (get_or-append_right ports wires (length ports) net [] refl le) ∙ get_or_from_slice_get (ports ++ wires) net name [] found in
    let step : net + 1 - length ports ≡ net - length ports + 1 = omega arith in
    ap (λ k. take k wires) step ∙ take_more wires (net - length ports) [] lt ∙ ap (λ z. take (net - length ports) wires ++ z ∷ []) at

-- the name of a net of a list by its place in the list
pub name_at-names_at : (list : List (List ℕ)) (nets : List NetId) (place : ℕ) (d : NetId) → place < length nets → name_at (names_at list nets) place ≡ name_at list (get_or nets place d).0
name_at-names_at list [] place d lt = absurd (omega arith)
name_at-names_at list (net ∷ nets) zero d lt = refl
name_at-names_at list (net ∷ nets) (suc place) d lt = name_at-names_at list nets place d (omega arith)

pub named_place : (list : List (List ℕ)) (nets : List NetId) (place : ℕ) (d : NetId) (name : List ℕ) → place < length nets → slice_get list (get_or nets place d).0 ≡ Some name → name_at (names_at list nets) place ≡ name
named_place list nets place d name lt found =
    name_at-names_at list nets place d lt ∙ get_or_from_slice_get list (get_or nets place d).0 name [] found

-- the names of nets are names of the list
pub All-names_at : (list : List (List ℕ)) (nets : List NetId) → AreNets list nets → All (Contains list) (names_at list nets)
All-names_at list nets within =
    All-map (Contains list) (λ (net : NetId). name_at list net.0) nets (λ k d lt. Contains-get_or list (get_or nets k d).0 [] (within k d lt))

-- the names at 0, 1, .. are the whole list
pub names_at_all : (list : List (List ℕ)) (nets : List NetId) → length nets ≡ length list → ((k : ℕ) → k < length nets → slice_get nets k ≡ Some (record { 0 = k })) → names_at list nets ≡ list
names_at_all list nets same order =
    let all : length (names_at list nets) ≡ length list = rw length-map same in
    same_by_places (names_at list nets) list all (λ k lt.
    let here : k < length nets = omega arith in
    let within : k < length list = omega arith in
    slice_get-map (λ (n : NetId). name_at list n.0) nets k
    ∙ ap (option_map (λ (n : NetId). name_at list n.0)) (order k here)
    ∙ sym (slice_get-get_or list k [] within))

-- the name of one more net, where all are different, goes behind the others
pub chosen_more : (list keys new : List (List ℕ)) (nets : List NetId) (i : ℕ) (d : NetId) (name : List ℕ) → AreNets list nets → IsDistinct bytes_eq (names_at list nets) → i < length nets → name ≡ get_or list (get_or nets i d).0 name → keys ≡ names_at list (take i nets) → new ≡ insert_key bytes_eq keys name → new ≡ names_at list (take (i + 1) nets)
chosen_more list keys new nets i d name within distinct lt is so_far e =
    let at : name_at list (get_or nets i d).0 ≡ name = get_or_default list (get_or nets i d).0 [] name (within i d lt) ∙ sym is in
    let more : names_at list (take (i + 1) nets) ≡ names_at list (take i nets) ++ name ∷ [] = names_at_take list nets i d lt ∙ ap (λ z. names_at list (take i nets) ++ z ∷ []) at in
    let whole : names_at list nets ≡ (names_at list (take i nets) ++ name ∷ []) ++ names_at list (drop (i + 1) nets) =
    ap (names_at list) (sym (take-append-drop (i + 1) nets)) ∙ map-append (λ (n : NetId). name_at list n.0) (take (i + 1) nets) (drop (i + 1) nets) ∙ ap (λ z. z ++ names_at list (drop (i + 1) nets)) more in
    let front : IsDistinct bytes_eq (names_at list (take i nets) ++ name ∷ []) =
    distinct_front (names_at list (take i nets) ++ name ∷ []) (names_at list (drop (i + 1) nets)) (subst (λ l. IsDistinct bytes_eq l) whole distinct) in
    let new_name : has (names_at list (take i nets)) name ≡ false =
    has-from_absent (names_at list (take i nets)) name (λ c. distinct_apart (names_at list (take i nets)) (name ∷ []) front name c (Contains_first name [])) in
    e ∙ ap (λ l. insert_key bytes_eq l name) so_far
    ∙ ap (λ b. cond b (names_at list (take i nets)) (names_at list (take i nets) ++ name ∷ [])) new_name
    ∙ sym more

-- one more name of a list behind others, where all are different
pub added_more : (first added keys new : List (List ℕ)) (i : ℕ) (name : List ℕ) → IsDistinct bytes_eq (first ++ added) → i < length added → name ≡ get_or added i name → keys ≡ first ++ take i added → new ≡ insert_key bytes_eq keys name → new ≡ first ++ take (i + 1) added
added_more first added keys new i name distinct lt is so_far e =
    let at : get_or added i [] ≡ name = get_or_default added i [] name lt ∙ sym is in
    let more : take (i + 1) added ≡ take i added ++ name ∷ [] = take_more added i [] lt ∙ ap (λ z. take i added ++ z ∷ []) at in
    let joined : first ++ take (i + 1) added ≡ (first ++ take i added) ++ name ∷ [] = ap (λ l. first ++ l) more ∙ sym (append_assoc first (take i added) (name ∷ [])) in
    let whole : first ++ added ≡ ((first ++ take i added) ++ name ∷ []) ++ drop (i + 1) added =
    ap (λ l. first ++ l) (sym (take-append-drop (i + 1) added)) ∙ sym (append_assoc first (take (i + 1) added) (drop (i + 1) added)) ∙ ap (λ l. l ++ drop (i + 1) added) joined in
    let front : IsDistinct bytes_eq ((first ++ take i added) ++ name ∷ []) =
    distinct_front ((first ++ take i added) ++ name ∷ []) (drop (i + 1) added) (subst (λ l. IsDistinct bytes_eq l) whole distinct) in
    let new_name : has (first ++ take i added) name ≡ false =
    has-from_absent (first ++ take i added) name (λ c. distinct_apart (first ++ take i added) (name ∷ []) front name c (Contains_first name [])) in
    e ∙ ap (λ l. insert_key bytes_eq l name) so_far
    ∙ ap (λ b. cond b (first ++ take i added) ((first ++ take i added) ++ name ∷ [])) new_name
    ∙ sym joined
