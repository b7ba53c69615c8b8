-- What holds of the netlist of declarations that have no error but perhaps a loop.
use Rattle.std.proofs.Common.{◌≡◌, ◌≢◌, ℕ, ◌<◌, ◌≤◌, Bool, true, false, not, ◌&&◌, ◌||◌, List, length, get_or, map, count_by, refl, ap, ◌∙◌, sym, subst, arith, inl, inr, nat_le}
use Rattle.std.specs.Prelude.{AllPairs, Contains, filter}
use Rattle.std.specs.List.{list_any}
use Rattle.std.specs.Str.{bytes_eq}
use Rattle.std.proofs.lemmas.Bool.{false≢true, false_from_ne_true}
use Rattle.std.proofs.lemmas.Bool.Decides.{nat_tests}
use Rattle.std.proofs.lemmas.List.{get_or-map, length-map}
use Rattle.std.proofs.Math.Bool.{or-true}
use Rattle.eco_lists.proofs.Names.{bytes_eq-same, same_name}
use Rattle.eco_netlist.proofs.NameSets.{Contains-from_has, has-from_Contains}
use Rattle.eco_meaning.specs.declared.name.Operand.TheVariants.{Named}
use Rattle.eco_meaning.specs.Circuit.{NamedGate, names, IsDriven, IsSignal}
use Rattle.eco_meaning.specs.Names.{has}
use Rattle.eco_lists.proofs.Members.{passes_any, some_passes}
use Rattle.eco_netlist.specs.declared.draft.TargetRule.{TargetRule}
use Rattle.eco_netlist.specs.Draft.{Declared, reads_name, is_driven, is_read, is_mentioned, is_target, nets_of, made}
use Rattle.eco_netlist.specs.Refusals.{is_twice, is_declared_twice, is_no_port, is_driven_twice, NeverComes, IsWellDeclared}
use Rattle.eco_gates.specs.GateValue.{GateValue}
use Rattle.eco_gates.specs.Gates.{IsOnceDriven}
use Rattle.eco_netlist.specs.Netlists.{name_at, named_gate}
use Rattle.eco_netlist.proofs.NetLemmas.{has-filter, has_nets, names_made, two_counted, filter_members}

-- a gate's output is driven, and what it reads is read
driven_from : (d : Declared) (g : NamedGate) → Contains d.gates g → is_driven d g.out ≡ true
driven_from d g member = passes_any (λ h. bytes_eq g.out h.out) d.gates g member (bytes_eq-same g.out)

pub read_from : (d : Declared) (g : NamedGate) (name : List ℕ) → Contains d.gates g → Contains g.terms (Named name) → is_read d name ≡ true
read_from d g name member reads =
    passes_any (λ h. list_any (reads_name name) h.terms) d.gates g member
    (passes_any (reads_name name) g.terms (Named name) reads (bytes_eq-same name))

-- mentioned names are nets
mentioned_net : (header wires live mentioned : Bool) → mentioned ≡ true → (header || ((wires && live) || mentioned)) ≡ true
mentioned_net true wires live mentioned e = refl
mentioned_net false wires live mentioned e = ap (λ b. (wires && live) || b) e ∙ or-true (wires && live)

net_mentioned : (rule : TargetRule) (d : Declared) (name : List ℕ) → is_mentioned d name ≡ true → has (nets_of rule d) name ≡ true
net_mentioned rule d name e =
    has_nets rule d name ∙ mentioned_net (has d.header name) (has d.wires name) (is_mentioned d name || is_target rule d name) (is_mentioned d name) e

pub net_driven : (rule : TargetRule) (d : Declared) (g : NamedGate) → Contains d.gates g → has (nets_of rule d) g.out ≡ true
net_driven rule d g member = net_mentioned rule d g.out (ap (λ b. b || is_read d g.out) (driven_from d g member))

pub net_read : (rule : TargetRule) (d : Declared) (g : NamedGate) (name : List ℕ) → Contains d.gates g → Contains g.terms (Named name) → has (nets_of rule d) name ≡ true
net_read rule d g name member reads =
    net_mentioned rule d name (ap (λ b. is_driven d name || b) (read_from d g name member reads) ∙ or-true (is_driven d name))

-- ---- gates that drive different nets
-- no two gates of the declarations have one output
pub outputs_differ : (d : Declared) → NeverComes (is_driven_twice d) → AllPairs (λ g h. g.out ≢ h.out) d.gates
outputs_differ d never i j g before within same =
    let name : List ℕ = (get_or d.gates i g).out in
    let first : bytes_eq name (get_or d.gates i g).out ≡ true = bytes_eq-same name in
    let second : bytes_eq name (get_or d.gates j g).out ≡ true = ap (bytes_eq name) (sym same) ∙ first in
    let two : 2 ≤ count_by (λ h. bytes_eq name h.out) d.gates = two_counted (λ (h : NamedGate). bytes_eq name h.out) d.gates i j g before within first second in
    let once : nat_le 2 (count_by (λ h. bytes_eq name h.out) d.gates) ≡ false = never name in
    grind (arith, nat_tests, two, once)

-- the gates by number drive different nets
pub once_driven : (d : Declared) (list : List (List ℕ)) (gates : List GateValue) → NeverComes (is_driven_twice d) → map (named_gate list) gates ≡ d.gates → IsOnceDriven gates
once_driven d list gates never named i j g before within same =
    let all : AllPairs (λ g h. g.out ≢ h.out) (map (named_gate list) gates) = subst (λ (l : List NamedGate). AllPairs (λ g h. g.out ≢ h.out) l) (sym named) (outputs_differ d never) in
    let room : j < length (map (named_gate list) gates) = rw length-map within in
    let first = get_or-map (named_gate list) gates i g (named_gate list g) (omega arith) in
    let second = get_or-map (named_gate list) gates j g (named_gate list g) within in
    all i j (named_gate list g) before room (ap (λ (h : NamedGate). h.out) first ∙ ap (name_at list) same ∙ sym (ap (λ (h : NamedGate). h.out) second))

-- ---- inputs and outputs
-- a port is an input of the netlist where it is declared as one
pub input_made : (rule : TargetRule) (d : Declared) (name : List ℕ) → has (made rule d).inputs name ≡ (has d.header name && has d.inputs name)
input_made rule d name = has-filter (has d.inputs) d.header name

pub output_made : (rule : TargetRule) (d : Declared) (name : List ℕ) → has (made rule d).outputs name ≡ (has d.header name && has d.outputs name)
output_made rule d name = has-filter (has d.outputs) d.header name

-- a filter by what a filter keeps keeps the same
pub filter_twice : (p : List ℕ → Bool) (xs : List (List ℕ)) → filter p xs ≡ filter (has (filter p xs)) xs
filter_twice p xs =
    filter_members p (has (filter p xs)) xs (λ x e. sym (has-filter p xs x ∙ ap (λ b. b && p x) e))

-- the bits of a port
pub port_bits : (header input output : Bool) → header ≡ true → (header && not input && not output) ≡ false → (input && output) ≡ false → (header && input) ≡ not (header && output)
port_bits true true true e f g = g
port_bits true true false e f g = refl
port_bits true false true e f g = refl
port_bits true false false e f g = sym f
port_bits false input output e f g = absurd (false≢true e)

-- one of several tests that do not hold
last_two : (a b c e f : Bool) → (a || b || c || (e && f)) ≡ false → (e && f) ≡ false
last_two false false false e f h = h
last_two true b c e f h = absurd (false≢true (sym h))
last_two false true c e f h = absurd (false≢true (sym h))
last_two false false true e f h = absurd (false≢true (sym h))

not_or : (a b : Bool) → (a || b) ≡ false → a ≡ false
not_or false b h = refl
not_or true b h = h

pub not_both_ways : (d : Declared) (name : List ℕ) → NeverComes (is_declared_twice d) → (has d.inputs name && has d.outputs name) ≡ false
not_both_ways d name never =
    last_two (is_twice d.header name) (is_twice d.inputs name) (is_twice d.outputs name) (has d.inputs name) (has d.outputs name)
    (not_or (is_twice d.header name || is_twice d.inputs name || is_twice d.outputs name || (has d.inputs name && has d.outputs name)) (is_twice d.wires name) (never name))

-- what is declared as an input is a port, and so an input of the netlist
in_header : (input output header : Bool) → ((input || output) && not header) ≡ false → input ≡ true → header ≡ true
in_header true output true e f = refl
in_header true output false e f = absurd (false≢true (sym e))
in_header false output header e f = absurd (false≢true f)

input_from : (rule : TargetRule) (d : Declared) (name : List ℕ) → NeverComes (is_no_port d) → has d.inputs name ≡ true → has (made rule d).inputs name ≡ true
input_from rule d name never e =
    input_made rule d name
    ∙ ap (λ b. b && has d.inputs name) (in_header (has d.inputs name) (has d.outputs name) (has d.header name) (never name) e)
    ∙ e

-- a driven net of the netlist is driven in the declarations, and the other way round
pub driven_made : (rule : TargetRule) (d : Declared) (name : List ℕ) → IsDriven (made rule d) name → is_driven d name ≡ true
driven_made rule d name driven = subst (λ (n : List ℕ). is_driven d n ≡ true) driven.2 (driven_from d driven.0 driven.1)

made_driven : (rule : TargetRule) (d : Declared) (name : List ℕ) → is_driven d name ≡ true → IsDriven (made rule d) name
made_driven rule d name e =
    let found = some_passes (λ (g : NamedGate). bytes_eq name g.out) d.gates e in
    (found.0, found.1, sym (same_name name found.0.out found.2))

-- ---- what is neither an input nor driven is a target
free_bits : (header wires mentioned target output read input driven : Bool) →
    (header || ((wires && (mentioned || target)) || mentioned)) ≡ true → mentioned ≡ (driven || read) →
    (header && not input && not output) ≡ false →
    ((output || read) && not input && not driven && not target) ≡ false →
    input ≡ false → driven ≡ false → target ≡ true
free_bits header wires mentioned true output read input driven net is port undriven no_input no_driver = refl
free_bits header wires mentioned false output read true driven net is port undriven no_input no_driver = absurd (false≢true (sym no_input))
free_bits header wires mentioned false output read false true net is port undriven no_input no_driver = absurd (false≢true (sym no_driver))
free_bits header wires mentioned false true read false false net is port undriven no_input no_driver = absurd (false≢true (sym undriven))
free_bits header wires mentioned false false true false false net is port undriven no_input no_driver = absurd (false≢true (sym undriven))
free_bits true wires mentioned false false false false false net is port undriven no_input no_driver = absurd (false≢true (sym port))
free_bits false wires true false false false false false net is port undriven no_input no_driver = absurd (false≢true (sym is))
free_bits false true false false false false false false net is port undriven no_input no_driver = absurd (false≢true net)
free_bits false false false false false false false false net is port undriven no_input no_driver = absurd (false≢true net)

pub free_target : (rule : TargetRule) (d : Declared) (name : List ℕ) → IsWellDeclared rule d → Contains (names (made rule d)) name → (IsSignal (made rule d) name → ⊥) → is_target rule d name ≡ true
free_target rule d name sound member free =
    let no_input : has d.inputs name ≡ false = false_from_ne_true (has d.inputs name) (λ e. free (inl (Contains-from_has (made rule d).inputs name (input_from rule d name sound.only_ports e)))) in
    let no_driver : is_driven d name ≡ false = false_from_ne_true (is_driven d name) (λ e. free (inr (made_driven rule d name e))) in
    let net : has (nets_of rule d) name ≡ true = ap (λ l. has l name) (sym (names_made rule d)) ∙ has-from_Contains (names (made rule d)) name member in
    free_bits (has d.header name) (has d.wires name) (is_mentioned d name) (is_target rule d name) (has d.outputs name) (is_read d name) (has d.inputs name) (is_driven d name)
    (sym (has_nets rule d name) ∙ net) refl (sound.ports_declared name) (sound.driven name) no_input no_driver
