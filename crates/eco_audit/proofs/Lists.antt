-- Lists of names and of costs, item by item.
use Rattle.std.proofs.Common.{◌≡◌, ℕ, ◌+◌, ◌≤◌, ◌<◌, Some, option_map, List, [], ◌∷◌, ◌++◌, length, map, take, drop, suc, get_or, sym, ◌∙◌, ap, arith}
use Rattle.std.proofs.Math.Seq.{split_at, take-append_seam, drop-append_seam}
use Rattle.std.proofs.lemmas.List.{take_more, map-append, take-map, drop-map, take-append-drop}
use Rattle.std.proofs.lemmas.Option.{slice_get-map, slice_get-get_or, get_or_from_slice_get}
use Rattle.eco_laws.proofs.Costs.{cost_append}
use Rattle.eco_meaning.specs.Report.{BaseSignal, cost_of}
use Rattle.eco_gates.specs.declared.gate.NetId.{NetId}
use Rattle.eco_netlist.specs.Netlists.{name_at, names_at}

-- one more name
pub one_more : {X : Type 0} (f : X → List ℕ) (list : List X) (i : ℕ) (d x : X) → x ≡ get_or list i d → i < length list → map f (take (i + 1) list) ≡ map f (take i list) ++ f x ∷ []
one_more f list i d x is within =
    ap (map f) (take_more list i d within) ∙ map-append f (take i list) (get_or list i d ∷ [])
    ∙ ap (λ y. map f (take i list) ++ f y ∷ []) (sym is)

-- the name at a place
pub named_at : {X : Type 0} (f : X → List ℕ) (list : List X) (i : ℕ) (d x : X) → x ≡ get_or list i d → i < length list → name_at (map f list) i ≡ f x
named_at f list i d x is within =
    get_or_from_slice_get (map f list) i (f x) []
    (slice_get-map f list i ∙ ap (option_map f) (slice_get-get_or list i d within) ∙ ap (λ y. Some (f y)) (sym is))

-- the cost of one more signal
pub cost_more : {X : Type 0} (f : X → BaseSignal) (list : List X) (i : ℕ) (d x : X) → x ≡ get_or list i d → i < length list → cost_of (map f (take (i + 1) list)) ≡ cost_of (map f (take i list)) + (f x).weight
cost_more f list i d x is within =
    let last = cost_append (map f (take i list)) (f x ∷ []) in
    ap (λ l. cost_of (map f l)) (take_more list i d within) ∙ ap cost_of (map-append f (take i list) (get_or list i d ∷ []))
    ∙ ap (λ y. cost_of (map f (take i list) ++ f y ∷ [])) (sym is) ∙ omega (arith, last)

-- all cost at least what the first ones and the next cost
pub cost_least : {X : Type 0} (f : X → BaseSignal) (list : List X) (i : ℕ) (d x : X) → x ≡ get_or list i d → i < length list → cost_of (map f (take i list)) + (f x).weight ≤ cost_of (map f list)
cost_least f list i d x is within =
    let whole = cost_append (map f (take i list)) (map f (get_or list i d ∷ drop (suc i) list)) in
    let cut = ap (λ l. cost_of (map f l)) (split_at list i d within) ∙ ap cost_of (map-append f (take i list) (get_or list i d ∷ drop (suc i) list)) in
    let same = ap (λ y. (f y).weight) is in
    omega (arith, cut, whole, same)

-- the names of nets in two parts
pub in_parts : (list : List (List ℕ)) (nets : List NetId) (ports targets signals : List (List ℕ)) (k : ℕ) → names_at list nets ≡ ports → k ≡ length targets →
    names_at list (take k nets) ≡ targets → names_at list (drop k nets) ≡ signals → ports ≡ targets ++ signals
in_parts list nets ports targets signals k named count first second =
    sym named ∙ ap (names_at list) (sym (take-append-drop k nets)) ∙ map-append (λ (net : NetId). name_at list net.0) (take k nets) (drop k nets)
    ∙ ap (λ l. l ++ names_at list (drop k nets)) first ∙ ap (λ l. targets ++ l) second

-- what they are, where they are of these parts
pub first_part : (list : List (List ℕ)) (nets : List NetId) (ports targets signals : List (List ℕ)) (k : ℕ) → names_at list nets ≡ ports → k ≡ length targets →
    ports ≡ targets ++ signals → names_at list (take k nets) ≡ targets
first_part list nets ports targets signals k named count whole =
    sym (take-map (λ (net : NetId). name_at list net.0) k nets) ∙ ap (take k) (named ∙ whole) ∙ ap (λ n. take n (targets ++ signals)) count ∙ take-append_seam targets signals

pub second_part : (list : List (List ℕ)) (nets : List NetId) (ports targets signals : List (List ℕ)) (k : ℕ) → names_at list nets ≡ ports → k ≡ length targets →
    ports ≡ targets ++ signals → names_at list (drop k nets) ≡ signals
second_part list nets ports targets signals k named count whole =
    sym (drop-map (λ (net : NetId). name_at list net.0) k nets) ∙ ap (drop k) (named ∙ whole) ∙ ap (λ n. drop n (targets ++ signals)) count ∙ drop-append_seam targets signals
