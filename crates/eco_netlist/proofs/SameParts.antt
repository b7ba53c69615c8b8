-- Two netlists stand for one circuit exactly where their parts are the same.
use Rattle.std.proofs.Common.{◌≡◌, ℕ, ◌<◌, List, [], ◌∷◌, length, map, refl, sym, ◌∙◌, ap, subst}
use Rattle.std.specs.List.{All, IsDistinct}
use Rattle.std.specs.Str.{bytes_eq}
use Rattle.std.proofs.lemmas.List.Elements.{All-head, All-tail}
use Rattle.eco_meaning.specs.Circuit.{Circuit, NamedGate, names}
use Rattle.eco_gates.specs.declared.gate.NetId.{NetId}
use Rattle.eco_gates.specs.declared.gate.Term.{Term}
use Rattle.eco_gates.specs.declared.gate.Term.TheVariants.{Zero, One, Net}
use Rattle.eco_gates.specs.GateValue.{GateValue}
use Rattle.eco_gates.specs.Gates.{IsWithin, IsTermBelow, IsGateWithin}
use Rattle.eco_netlist.specs.declared.netlist.Netlist.TheInside.{Inside}
use Rattle.eco_netlist.specs.Netlists.{name_at, names_at, named_term, named_gate, AreNets, AreGates}
use Rattle.eco_netlist.specs.Numbered.{circuit_of, IsNumbered}
use Rattle.eco_netlist.proofs.FanNames.{net_injective}

-- a function that tells elements apart tells their lists apart
map_injective : {X Y : Type 0} (P : X → Type 0) (f : X → Y) → ((x y : X) → P x → P y → f x ≡ f y → x ≡ y) → (xs ys : List X) → All P xs → All P ys → map f xs ≡ map f ys → xs ≡ ys
map_injective P f apart [] [] a b e = refl
map_injective P f apart [] (y ∷ ys) a b e = cc
map_injective P f apart (x ∷ xs) [] a b e = cc
map_injective P f apart (x ∷ xs) (y ∷ ys) a b e =
    let heads : f x ≡ f y = cc in
    let tails : map f xs ≡ map f ys = cc in
    ap (λ z. z ∷ xs) (apart x y (All-head P x xs a) (All-head P y ys b) heads)
    ∙ ap (λ l. y ∷ l) (map_injective P f apart xs ys (All-tail P x xs a) (All-tail P y ys b) tails)

nets_injective : (list : List (List ℕ)) (xs ys : List NetId) → IsDistinct bytes_eq list → AreNets list xs → AreNets list ys → names_at list xs ≡ names_at list ys → xs ≡ ys
nets_injective list xs ys distinct a b e =
    map_injective (λ (net : NetId). net.0 < length list) (λ (net : NetId). name_at list net.0) (λ x y lt_x lt_y same. net_injective list x y distinct lt_x lt_y same) xs ys a b e

term_injective : (list : List (List ℕ)) → IsDistinct bytes_eq list → (x y : Term) → IsTermBelow (length list) x → IsTermBelow (length list) y → named_term list x ≡ named_term list y → x ≡ y
term_injective list distinct Zero Zero a b e = refl
term_injective list distinct Zero One a b e = cc
term_injective list distinct Zero (Net n) a b e = cc
term_injective list distinct One Zero a b e = cc
term_injective list distinct One One a b e = refl
term_injective list distinct One (Net n) a b e = cc
term_injective list distinct (Net m) Zero a b e = cc
term_injective list distinct (Net m) One a b e = cc
term_injective list distinct (Net m) (Net n) a b e =
    let named : name_at list m.0 ≡ name_at list n.0 = cc in
    ap Net (net_injective list m n distinct a b named)

gate_injective : (list : List (List ℕ)) → IsDistinct bytes_eq list → (x y : GateValue) → IsGateWithin (length list) x → IsGateWithin (length list) y → named_gate list x ≡ named_gate list y → x ≡ y
gate_injective list distinct x y a b e =
    let kind : x.kind ≡ y.kind = ap (λ (g : NamedGate). g.kind) e in
    let out = net_injective list x.out y.out distinct a.out b.out (ap (λ (g : NamedGate). g.out) e) in
    let ins = map_injective (IsTermBelow (length list)) (named_term list) (term_injective list distinct) x.ins y.ins a.ins b.ins (ap (λ (g : NamedGate). g.terms) e) in
    ap (λ k. record x { kind = k }) kind ∙ ap (λ o. record y { out = o; ins = x.ins }) out ∙ ap (λ l. record y { ins = l }) ins

-- parts of netlists that stand for one circuit
same_keys : (a b : Inside) → IsNumbered a → IsNumbered b → circuit_of a ≡ circuit_of b → a.names.keys ≡ b.names.keys
same_keys a b is_a is_b e = sym is_a.numbers ∙ ap names e ∙ is_b.numbers

same_nets : (a b : Inside) → IsNumbered a → IsNumbered b → circuit_of a ≡ circuit_of b → (xs ys : List NetId) → AreNets a.names.keys xs → AreNets b.names.keys ys → names_at a.names.keys xs ≡ names_at b.names.keys ys → xs ≡ ys
same_nets a b is_a is_b e xs ys within_x within_y same =
    let keys = same_keys a b is_a is_b e in
    let distinct = subst (λ l. IsDistinct bytes_eq l) is_a.numbers is_a.checked.distinct in
    nets_injective a.names.keys xs ys distinct within_x (subst (λ l. AreNets l ys) (sym keys) within_y) (same ∙ ap (λ l. names_at l ys) (sym keys))

pub same_ports : (a b : Inside) → IsNumbered a → IsNumbered b → circuit_of a ≡ circuit_of b → a.ports.items ≡ b.ports.items
same_ports a b is_a is_b e = same_nets a b is_a is_b e a.ports.items b.ports.items is_a.port_nets is_b.port_nets (ap (λ (n : Circuit). n.ports) e)

pub same_inputs : (a b : Inside) → IsNumbered a → IsNumbered b → circuit_of a ≡ circuit_of b → a.inputs.items ≡ b.inputs.items
same_inputs a b is_a is_b e = same_nets a b is_a is_b e a.inputs.items b.inputs.items is_a.input_nets is_b.input_nets (ap (λ (n : Circuit). n.inputs) e)

pub same_outputs : (a b : Inside) → IsNumbered a → IsNumbered b → circuit_of a ≡ circuit_of b → a.outputs.items ≡ b.outputs.items
same_outputs a b is_a is_b e = same_nets a b is_a is_b e a.outputs.items b.outputs.items is_a.output_nets is_b.output_nets (ap (λ (n : Circuit). n.outputs) e)

pub same_gates : (a b : Inside) → IsNumbered a → IsNumbered b → circuit_of a ≡ circuit_of b → a.gates.items ≡ b.gates.items
same_gates a b is_a is_b e =
    let keys = same_keys a b is_a is_b e in
    let distinct = subst (λ l. IsDistinct bytes_eq l) is_a.numbers is_a.checked.distinct in
    map_injective (IsGateWithin (length a.names.keys)) (named_gate a.names.keys) (gate_injective a.names.keys distinct) a.gates.items b.gates.items
    is_a.gate_nets (subst (λ (l : List (List ℕ)). IsWithin (length l) b.gates.items) (sym keys) is_b.gate_nets)
    (ap (λ (n : Circuit). n.gates) e ∙ ap (λ (l : List (List ℕ)). map (named_gate l) b.gates.items) (sym keys))

-- netlists with the same parts stand for one circuit
pub same_circuit : (a b : Inside) → a.title ≡ b.title → a.names.keys ≡ b.names.keys → a.ports.items ≡ b.ports.items → a.inputs.items ≡ b.inputs.items → a.outputs.items ≡ b.outputs.items → a.gates.items ≡ b.gates.items → circuit_of a ≡ circuit_of b
same_circuit a b title keys ports inputs outputs gates = rw (title, keys, ports, inputs, outputs, gates) refl

-- the gates of a netlist over its numbers are those that it keeps
pub kept_gates : (a : Inside) (n : Circuit) (gates : List GateValue) → circuit_of a ≡ n → IsNumbered a → AreGates n gates → a.gates.items ≡ gates
kept_gates a n gates is numbered are =
    let keys : names n ≡ a.names.keys = sym (ap names is) ∙ numbered.numbers in
    let distinct = subst (λ l. IsDistinct bytes_eq l) numbered.numbers numbered.checked.distinct in
    map_injective (IsGateWithin (length a.names.keys)) (named_gate a.names.keys) (gate_injective a.names.keys distinct) a.gates.items gates
    numbered.gate_nets (subst (λ (l : List (List ℕ)). IsWithin (length l) gates) keys are.within)
    (ap (λ (m : Circuit). m.gates) is ∙ sym are.named ∙ ap (λ (l : List (List ℕ)). map (named_gate l) gates) keys)
