-- Nets in turn, by number and by name.
use Rattle.std.proofs.Common.{◌≡◌, ◌↔◌, inl, inr, ℕ, suc, ◌+◌, ◌<◌, Bool, true, false, cond, List, [], ◌∷◌, ◌++◌, length, map, drop, take, get_or, Some, refl, sym, ◌∙◌, ap, subst, add-one, ◌&&◌, codes}
use Rattle.std.specs.List.{Contains, IsDistinct, filter, flat_map, list_all, slice_get}
use Rattle.std.specs.Str.{bytes_eq}
use Rattle.std.proofs.Math.Seq.{drop-cons}
use Rattle.std.proofs.Math.ListN.{drop_of_length-le}
use Rattle.std.proofs.lemmas.Bool.{cases_Bool, cases_lt, both_ways, false≢true}
use Rattle.std.proofs.lemmas.List.{flat_map_more, take_more}
use Rattle.std.proofs.lemmas.List.Folds.{flat_map-map}
use Rattle.std.proofs.lemmas.Option.{slice_get-get_or, slice_get_within, get_or_from_slice_get}
use Rattle.eco_netlist.proofs.FanNames.{net_injective}
use Rattle.eco_lists.proofs.Members.{Contains_first, filter-Contains}
use Rattle.eco_gates.specs.declared.gate.NetId.{NetId}
use Rattle.eco_gates.specs.declared.gate.Term.{Term}
use Rattle.eco_gates.specs.GateValue.{GateValue}
use Rattle.eco_meaning.specs.Names.{has, is_name}
use Rattle.eco_meaning.specs.Circuit.{Circuit, names}
use Rattle.eco_netlist.specs.Netlists.{name_at, names_at, named_term, named_gate, AreNets, IsChecked}
use Rattle.eco_vwrite.specs.Written.{name_text, operand_text, port_line, gate_line}

-- what is first of a filter's list passes
first_passes : (p : List ℕ → Bool) (x : List ℕ) (xs ys : List (List ℕ)) → x ∷ ys ≡ cond (p x) (x ∷ filter p xs) (filter p xs) → (p x ≡ true) × (ys ≡ filter p xs)
first_passes p x xs ys e =
    elim (p x) as (λ b. p x ≡ b → x ∷ ys ≡ cond b (x ∷ filter p xs) (filter p xs) → (p x ≡ true) × (ys ≡ filter p xs)) [
      | true ↦ λ is same. (is, cc)
      | false ↦ λ is same. absurd (both_ways (p x) is (filter-Contains p xs x (subst (λ zs. Contains zs x) same (Contains_first x ys))).1)
    ] refl e

-- a port that is the first of the inputs ahead is the next of them
not_next : (list : List (List ℕ)) (inputs : List NetId) (next : ℕ) (port : NetId) (others : List (List ℕ)) → IsDistinct bytes_eq list → AreNets list inputs → port.0 < length list → names_at list (drop next inputs) ≡ name_at list port.0 ∷ others → (slice_get inputs next ≡ Some port → ⊥) → ⊥
not_next list inputs next port others distinct within lp e apart =
    elim (cases_lt next (length inputs)) [
      | inl lt ↦
          let net : NetId = get_or inputs next port in
          let ahead : name_at list net.0 ∷ names_at list (drop (suc next) inputs) ≡ name_at list port.0 ∷ others =
          sym (ap (names_at list) (drop-cons inputs next port lt)) ∙ e in
          let name : name_at list net.0 ≡ name_at list port.0 = cc in
          apart (slice_get-get_or inputs next port lt ∙ ap (λ x. Some x) (net_injective list net port distinct (within next port lt) lp name))
      | inr past ↦
          let none : [] ≡ name_at list port.0 ∷ others = sym (ap (names_at list) (drop_of_length-le inputs past)) ∙ e in
          cc
    ]

-- the next input is the port where the port is an input, and only there
next_input : (has_input : List ℕ → Bool) (list : List (List ℕ)) (inputs : List NetId) (next : ℕ) (port : NetId) (later : List (List ℕ)) → IsDistinct bytes_eq list → AreNets list inputs → port.0 < length list → names_at list (drop next inputs) ≡ filter has_input (name_at list port.0 ∷ later) → (b : Bool) → ((b ≡ true) ↔ (slice_get inputs next ≡ Some port)) → (has_input (name_at list port.0) ≡ b) × (names_at list (drop (cond b (next + 1) next) inputs) ≡ filter has_input later)
next_input has_input list inputs next port later distinct within lp e true same =
    let here = same.0 refl in
    let lt = slice_get_within inputs next port here in
    let first : get_or inputs next port ≡ port = get_or_from_slice_get inputs next port port here in
    let split : drop next inputs ≡ port ∷ drop (suc next) inputs = drop-cons inputs next port lt ∙ ap (λ x. x ∷ drop (suc next) inputs) first in
    let passes = first_passes has_input (name_at list port.0) later (names_at list (drop (suc next) inputs)) (sym (ap (names_at list) split) ∙ e) in
    (passes.0, ap (λ k. names_at list (drop k inputs)) (add-one next) ∙ passes.1)
next_input has_input list inputs next port later distinct within lp e false same =
    elim (cases_Bool (has_input (name_at list port.0))) [
      | inl passes ↦ absurd (not_next list inputs next port (filter has_input later) distinct within lp
          (e ∙ ap (λ b. cond b (name_at list port.0 ∷ filter has_input later) (filter has_input later)) passes) (λ here. false≢true (same.1 here)))
      | inr fails ↦ (fails, e ∙ ap (λ b. cond b (name_at list port.0 ∷ filter has_input later) (filter has_input later)) fails)
    ]

-- names that are still to be seen
pub ports_left : (list : List (List ℕ)) (ports : List NetId) (k : ℕ) (d : NetId) → k < length ports → is_name (name_at list (get_or ports k d).0) ≡ true → list_all is_name (names_at list (drop k ports)) ≡ list_all is_name (names_at list (drop (k + 1) ports))
ports_left list ports k d lt e =
    ap (λ nets. list_all is_name (names_at list nets)) (drop-cons ports k d lt)
    ∙ ap (λ b. b && list_all is_name (names_at list (drop (suc k) ports))) e
    ∙ ap (λ j. list_all is_name (names_at list (drop j ports))) (sym (add-one k))

-- what is written of nets, terms and gates is written of what stands for them
pub nets_by_name : (list : List (List ℕ)) (nets : List NetId) → flat_map (λ net. codes ", " ++ name_text (name_at list net.0)) nets ≡ flat_map (λ name. codes ", " ++ name_text name) (names_at list nets)
nets_by_name list nets = sym (flat_map-map (λ name. codes ", " ++ name_text name) (λ (net : NetId). name_at list net.0) nets)

pub terms_by_name : (list : List (List ℕ)) (terms : List Term) → flat_map (λ term. codes ", " ++ operand_text (named_term list term)) terms ≡ flat_map (λ operand. codes ", " ++ operand_text operand) (map (named_term list) terms)
terms_by_name list terms = sym (flat_map-map (λ operand. codes ", " ++ operand_text operand) (named_term list) terms)

pub gates_by_name : (list : List (List ℕ)) (gates : List GateValue) → flat_map (λ gate. gate_line (named_gate list gate)) gates ≡ flat_map gate_line (map (named_gate list) gates)
gates_by_name list gates = sym (flat_map-map gate_line (named_gate list) gates)

pub ports_by_name : (n : Circuit) (list : List (List ℕ)) (ports : List NetId) → flat_map (λ net. port_line n (name_at list net.0)) ports ≡ flat_map (port_line n) (names_at list ports)
ports_by_name n list ports = sym (flat_map-map (port_line n) (λ (net : NetId). name_at list net.0) ports)

-- one more port: which direction it has, and what inputs are ahead then
pub port_turn : (n : Circuit) → IsChecked n → (inputs ports : List NetId) (index next : ℕ) (d : NetId) → AreNets (names n) inputs → AreNets (names n) ports → index < length ports → names_at (names n) (drop next inputs) ≡ filter (has n.inputs) (names_at (names n) (drop index ports)) → (b : Bool) → ((b ≡ true) ↔ (slice_get inputs next ≡ Some (get_or ports index d))) → (has n.inputs (name_at (names n) (get_or ports index d).0) ≡ b) × (names_at (names n) (drop (cond b (next + 1) next) inputs) ≡ filter (has n.inputs) (names_at (names n) (drop (index + 1) ports)))
port_turn n checked inputs ports index next d within_inputs within_ports lt e b same =
    let list = names n in
    let port = get_or ports index d in
    let later = names_at list (drop (suc index) ports) in
    let split : names_at list (drop next inputs) ≡ filter (has n.inputs) (name_at list port.0 ∷ later) =
    e ∙ ap (λ nets. filter (has n.inputs) (names_at list nets)) (drop-cons ports index d lt) in
    let found = next_input (has n.inputs) list inputs next port later checked.distinct within_inputs (within_ports index d lt) split b same in
    (found.0, found.1 ∙ ap (λ j. filter (has n.inputs) (names_at list (drop j ports))) (sym (add-one index)))

-- its line
pub port_more : (n : Circuit) (list : List (List ℕ)) (ports : List NetId) (index : ℕ) (d : NetId) → index < length ports → (start before after word : List ℕ) (b : Bool) → before ≡ start ++ flat_map (λ net. port_line n (name_at list net.0)) (take index ports) → after ≡ before ++ (word ++ name_text (name_at list (get_or ports index d).0) ++ codes ";\n") → word ≡ cond b (codes "input ") (codes "output ") → has n.inputs (name_at list (get_or ports index d).0) ≡ b → after ≡ start ++ flat_map (λ net. port_line n (name_at list net.0)) (take (index + 1) ports)
port_more n list ports index d lt start before after word b so_far more which is =
    let name = name_at list (get_or ports index d).0 in
    more
    ∙ ap (λ w. before ++ (w ++ name_text name ++ codes ";\n")) which
    ∙ ap (λ c. before ++ (cond c (codes "input ") (codes "output ") ++ name_text name ++ codes ";\n")) (sym is)
    ∙ ap (λ text. text ++ port_line n name) so_far
    ∙ flat_map_more (λ net. port_line n (name_at list net.0)) start (take index ports) (get_or ports index d)
    ∙ ap (λ nets. start ++ flat_map (λ net. port_line n (name_at list net.0)) nets) (sym (take_more ports index d lt))
