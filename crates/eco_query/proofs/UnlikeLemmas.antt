-- When a port of one netlist is unlike the ports of another.
use Rattle.std.proofs.Common.{◌≡◌, ℕ, Bool, true, false, not, ◌&&◌, ◌||◌, List, [], ◌++◌, Some, refl, sym, ◌∙◌, ap, inl, inr}
use mathlib.Core.Bool.{beq}
use Rattle.std.specs.List.{slice_get, Contains}
use Rattle.std.proofs.lemmas.Bool.{false_from_ne_true, false≢true, or_cases, and_parts}
use Rattle.std.proofs.lemmas.List.Elements.{Contains-append_left, Contains-append_right}
use Rattle.std.proofs.lemmas.Option.{get_or_from_slice_get}
use Rattle.std.proofs.Math.Bool.{and_comm}
use Rattle.eco_netlist.proofs.NameSets.{Contains-from_has, has-from_Contains}
use Rattle.eco_meaning.specs.Names.{has}
use Rattle.eco_meaning.specs.Circuit.{Circuit, names}
use Rattle.eco_netlist.specs.Netlists.{name_at, IsChecked}
use Rattle.eco_netlist.proofs.Plainly.{input_is_port, output_is_port}
use Rattle.eco_query.specs.Ports.{is_unlike}

-- a port that the other netlist doesn't have as a port
pub unlike-no_port : (n o : Circuit) (name : List ℕ) → has n.ports name ≡ true → has o.ports name ≡ false → is_unlike n o name ≡ true
unlike-no_port n o name here there = rw (here, there)

-- a port whose name the other netlist doesn't have
pub unlike-no_net : (n o : Circuit) (name : List ℕ) → has n.ports name ≡ true → has (names o) name ≡ false → is_unlike n o name ≡ true
unlike-no_net n o name here absent =
    unlike-no_port n o name here
    (false_from_ne_true (has o.ports name) (λ e.
    false≢true (sym absent ∙ has-from_Contains (names o) name (Contains-append_left o.ports o.wires name (Contains-from_has o.ports name e)))))

directions : (i o j p : Bool) → i ≡ not o → j ≡ not p → ((((true && not true) || (true && not true)) || (i && p)) || (o && j)) ≡ not (beq i j)
directions i true j true e h = rw (e, h)
directions i true j false e h = rw (e, h)
directions i false j true e h = rw (e, h)
directions i false j false e h = rw (e, h)

-- a port of both
pub unlike-port : (n o : Circuit) (name : List ℕ) → IsChecked n → IsChecked o → has n.ports name ≡ true → has o.ports name ≡ true → is_unlike n o name ≡ not (beq (has n.inputs name) (has o.inputs name))
unlike-port n o name checked other here there =
    rw (here, there)
    (directions (has n.inputs name) (has n.outputs name) (has o.inputs name) (has o.outputs name)
    (checked.directed name (Contains-from_has n.ports name here))
    (other.directed name (Contains-from_has o.ports name there)))

-- the name that stands at a place is the one that is read there
pub name_at-from_slice_get : (list : List (List ℕ)) (k : ℕ) (name : List ℕ) → slice_get list k ≡ Some name → name_at list k ≡ name
name_at-from_slice_get list k name e = get_or_from_slice_get list k name [] e

or-moved : (a b c d : Bool) → (((a || b) || c) || d) ≡ (((b || a) || d) || c)
or-moved true true c d = refl
or-moved true false c d = refl
or-moved false true c d = refl
or-moved false false true true = refl
or-moved false false true false = refl
or-moved false false false true = refl
or-moved false false false false = refl

-- it is the same from either side
pub unlike-flip : (l r : Circuit) (name : List ℕ) → is_unlike l r name ≡ is_unlike r l name
unlike-flip l r name =
    let in_out = and_comm (has l.inputs name) (has r.outputs name) in
    let out_in = and_comm (has l.outputs name) (has r.inputs name) in
    or-moved (has l.ports name && not (has r.ports name)) (has r.ports name && not (has l.ports name))
    (has l.inputs name && has r.outputs name) (has l.outputs name && has r.inputs name)
    ∙ ap (λ x. ((((has r.ports name && not (has l.ports name)) || (has l.ports name && not (has r.ports name))) || x) || (has l.inputs name && has r.outputs name))) out_in
    ∙ ap (λ x. ((((has r.ports name && not (has l.ports name)) || (has l.ports name && not (has r.ports name))) || (has r.inputs name && has l.outputs name)) || x)) in_out

-- inputs and outputs are ports
pub input-port : (n : Circuit) (name : List ℕ) → IsChecked n → has n.inputs name ≡ true → Contains n.ports name
input-port n name checked e = input_is_port n checked name (Contains-from_has n.inputs name e)

pub output-port : (n : Circuit) (name : List ℕ) → IsChecked n → has n.outputs name ≡ true → Contains n.ports name
output-port n name checked e = output_is_port n checked name (Contains-from_has n.outputs name e)

-- what is unlike is a port of one of the two
pub unlike-in_ports : (l r : Circuit) (name : List ℕ) → IsChecked l → is_unlike l r name ≡ true → Contains (l.ports ++ r.ports) name
unlike-in_ports l r name checked e =
    let left : Contains l.ports name → Contains (l.ports ++ r.ports) name = Contains-append_left l.ports r.ports name in
    let l_alone = has l.ports name && not (has r.ports name) in
    let r_alone = has r.ports name && not (has l.ports name) in
    let in_out = has l.inputs name && has r.outputs name in
    let out_in = has l.outputs name && has r.inputs name in
    elim (or_cases ((l_alone || r_alone) || in_out) out_in e) [
      | inr d ↦ left (output-port l name checked (and_parts (has l.outputs name) (has r.inputs name) d).0)
      | inl abc ↦ elim (or_cases (l_alone || r_alone) in_out abc) [
        | inr c ↦ left (input-port l name checked (and_parts (has l.inputs name) (has r.outputs name) c).0)
        | inl ab ↦ elim (or_cases l_alone r_alone ab) [
          | inl a ↦ left (Contains-from_has l.ports name (and_parts (has l.ports name) (not (has r.ports name)) a).0)
          | inr b ↦ Contains-append_right l.ports r.ports name (Contains-from_has r.ports name (and_parts (has r.ports name) (not (has l.ports name)) b).0)
        ]
      ]
    ]
