-- Declarations over numbers, when the table of names grows behind.
use Rattle.std.proofs.Common.{◌≡◌, ℕ, ◌<◌, ◌≤◌, List, [], ◌∷◌, ◌++◌, map, length, refl, ◌∙◌, ap, append_assoc, arith}
use Rattle.std.specs.List.{All}
use Rattle.std.proofs.Math.ListN.{get_or-append}
use Rattle.std.proofs.lemmas.List.{length-append, map-append}
use Rattle.std.proofs.lemmas.List.Elements.{All-weaker, All-push}
use Rattle.eco_gates.specs.declared.gate.NetId.{NetId}
use Rattle.eco_gates.specs.declared.gate.Term.{Term}
use Rattle.eco_gates.specs.declared.gate.Term.TheVariants.{Zero, One, Net}
use Rattle.eco_gates.specs.GateValue.{GateValue}
use Rattle.eco_gates.specs.Gates.{IsTermBelow, IsGateWithin, IsWithin}
use Rattle.eco_lists.proofs.Places.{map_agree, All_at}
use Rattle.eco_meaning.specs.declared.name.Operand.{Operand}
use Rattle.eco_meaning.specs.declared.name.Operand.TheVariants as operand
use Rattle.eco_netlist.specs.declared.draft.Declarations.{Declarations}
use Rattle.eco_netlist.specs.Drafted.{Extends, declared_of, IsDrafted}
use Rattle.eco_netlist.specs.Netlists.{name_at, names_at, named_term, named_gate, AreNets}

-- what grows twice has grown
pub Extends-twice : (list longer longest : List (List ℕ)) → Extends list longer → Extends longer longest → Extends list longest
Extends-twice list longer longest first later =
    (first.0 ++ later.0, later.1 ∙ ap (λ l. l ++ later.0) first.1 ∙ append_assoc list first.0 later.0)

-- it is no shorter
pub Extends-length : (list longer : List (List ℕ)) → Extends list longer → length list ≤ length longer
Extends-length list longer grown = rw grown.1 (omega (arith, length-append list grown.0))

-- a name that stood in the table stands there still
pub name_at-longer : (list longer : List (List ℕ)) (net : ℕ) → Extends list longer → net < length list → name_at longer net ≡ name_at list net
name_at-longer list longer net grown within = rw grown.1 (get_or-append list grown.0 [] net within)

pub names_at-longer : (list longer : List (List ℕ)) (nets : List NetId) → Extends list longer → AreNets list nets → names_at longer nets ≡ names_at list nets
names_at-longer list longer nets grown within =
    map_agree (λ (n : NetId). name_at longer n.0) (λ (n : NetId). name_at list n.0) nets
    (λ k net at. name_at-longer list longer net.0 grown (All_at (λ (n : NetId). n.0 < length list) nets k net within at))

-- the same for what a gate's inputs read, and for gates
pub named_term-longer : (list longer : List (List ℕ)) (t : Term) → Extends list longer → IsTermBelow (length list) t → named_term longer t ≡ named_term list t
named_term-longer list longer Zero grown within = refl
named_term-longer list longer One grown within = refl
named_term-longer list longer (Net net) grown within = ap (λ name. operand.Named name) (name_at-longer list longer net.0 grown within)

pub named_terms-longer : (list longer : List (List ℕ)) (terms : List Term) → Extends list longer → All (IsTermBelow (length list)) terms → map (named_term longer) terms ≡ map (named_term list) terms
named_terms-longer list longer terms grown within =
    map_agree (named_term longer) (named_term list) terms
    (λ k t at. named_term-longer list longer t grown (All_at (IsTermBelow (length list)) terms k t within at))

pub named_gate-longer : (list longer : List (List ℕ)) (g : GateValue) → Extends list longer → IsGateWithin (length list) g → named_gate longer g ≡ named_gate list g
named_gate-longer list longer g grown within =
    rw (name_at-longer list longer g.out.0 grown within.out, named_terms-longer list longer g.ins grown within.ins) refl

pub named_gates-longer : (list longer : List (List ℕ)) (gates : List GateValue) → Extends list longer → IsWithin (length list) gates → map (named_gate longer) gates ≡ map (named_gate list) gates
named_gates-longer list longer gates grown within =
    map_agree (named_gate longer) (named_gate list) gates
    (λ k g at. named_gate-longer list longer g grown (All_at (IsGateWithin (length list)) gates k g within at))

-- what is below the length of the table is below the longer one's
pub IsTermBelow-more : (few many : ℕ) (t : Term) → few ≤ many → IsTermBelow few t → IsTermBelow many t
IsTermBelow-more few many Zero le within = within
IsTermBelow-more few many One le within = within
IsTermBelow-more few many (Net net) le within = omega (arith, within)

pub AreTerms-longer : (list longer : List (List ℕ)) (terms : List Term) → Extends list longer → All (IsTermBelow (length list)) terms → All (IsTermBelow (length longer)) terms
AreTerms-longer list longer terms grown within =
    All-weaker (IsTermBelow (length list)) (IsTermBelow (length longer))
    (λ t. IsTermBelow-more (length list) (length longer) t (Extends-length list longer grown)) terms within

-- one more input of a gate, of which the table has the name
pub named_terms-push : (now new : List (List ℕ)) (terms : List Term) (done : List Operand) (t : Term) (read : Operand) → Extends now new → All (IsTermBelow (length now)) terms → map (named_term now) terms ≡ done → named_term new t ≡ read → map (named_term new) (terms ++ t ∷ []) ≡ done ++ read ∷ []
named_terms-push now new terms done t read grown within so_far is =
    map-append (named_term new) terms (t ∷ [])
    ∙ ap (λ ts. ts ++ named_term new t ∷ []) (named_terms-longer now new terms grown within ∙ so_far)
    ∙ ap (λ r. done ++ r ∷ []) is

pub AreTerms-push : (now new : List (List ℕ)) (terms : List Term) (t : Term) → Extends now new → All (IsTermBelow (length now)) terms → IsTermBelow (length new) t → All (IsTermBelow (length new)) (terms ++ t ∷ [])
AreTerms-push now new terms t grown within is =
    All-push (IsTermBelow (length new)) terms t (AreTerms-longer now new terms grown within) is

-- declarations stay the same over a longer table
pub declared_of-longer : (x y : Declarations) → IsDrafted x → Extends x.names.keys y.names.keys → declared_of (record x { names = y.names }) ≡ declared_of x
declared_of-longer x y drafted grown =
    let header = names_at-longer x.names.keys y.names.keys x.header.items grown drafted.header in
    let inputs = names_at-longer x.names.keys y.names.keys x.inputs.items grown drafted.inputs in
    let outputs = names_at-longer x.names.keys y.names.keys x.outputs.items grown drafted.outputs in
    let wires = names_at-longer x.names.keys y.names.keys x.wires.items grown drafted.wires in
    let gates = named_gates-longer x.names.keys y.names.keys x.gates.items grown drafted.gates in
    rw (header, inputs, outputs, wires, gates) refl

-- nets that stand in the shorter list stand in the longer one
pub AreNets-longer : (list longer : List (List ℕ)) (nets : List NetId) → Extends list longer → AreNets list nets → AreNets longer nets
AreNets-longer list longer nets grown within =
    let le = Extends-length list longer grown in
    All-weaker (λ (net : NetId). net.0 < length list) (λ (net : NetId). net.0 < length longer) (λ net lt. omega (arith, le, lt)) nets within

pub IsWithin-longer : (list longer : List (List ℕ)) (gates : List GateValue) → Extends list longer → IsWithin (length list) gates → IsWithin (length longer) gates
IsWithin-longer list longer gates grown within =
    let le = Extends-length list longer grown in
    All-weaker (IsGateWithin (length list)) (IsGateWithin (length longer)) (λ g is. record {
      out = (let lt = is.out in omega (arith, le, lt));
      ins = AreTerms-longer list longer g.ins grown is.ins;
      kind = is.kind;
    }) gates within

-- they are over numbers of names there too
pub IsDrafted-longer : (x y : Declarations) → IsDrafted x → Extends x.names.keys y.names.keys → IsDrafted (record x { names = y.names })
IsDrafted-longer x y drafted grown = record {
  header = AreNets-longer x.names.keys y.names.keys x.header.items grown drafted.header;
  inputs = AreNets-longer x.names.keys y.names.keys x.inputs.items grown drafted.inputs;
  outputs = AreNets-longer x.names.keys y.names.keys x.outputs.items grown drafted.outputs;
  wires = AreNets-longer x.names.keys y.names.keys x.wires.items grown drafted.wires;
  gates = IsWithin-longer x.names.keys y.names.keys x.gates.items grown drafted.gates;
}
