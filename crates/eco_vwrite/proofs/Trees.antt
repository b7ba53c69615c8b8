-- The syntax tree of a netlist's text, and what it declares.
use Rattle.std.proofs.Common.{◌≡◌, ℕ, Bool, true, false, not, cond, List, [], ◌∷◌, ◌++◌, map, Some, None, refl, sym, ◌∙◌, ap, append-nil}
use Rattle.std.specs.List.{Contains, filter, flat_map}
use Rattle.std.proofs.lemmas.List.Concat.{flat_map-append}
use Rattle.std.proofs.Math.Bool.{not-not}
use Rattle.std.proofs.lemmas.List.{map-id}
use Rattle.eco_lists.proofs.Members.{Contains_first, Contains_later}
use Rattle.eco_meaning.specs.declared.kind.Kind.{Kind}
use Rattle.eco_meaning.specs.declared.name.Operand.{Operand}
use Rattle.eco_meaning.specs.declared.name.Operand.TheVariants.{Zero, One, Named}
use Rattle.eco_meaning.specs.Names.{has}
use Rattle.eco_meaning.specs.Circuit.{Circuit, NamedGate}
use Rattle.eco_netlist.specs.Draft.{Declared}
use Rattle.eco_netlist.specs.Netlists.{IsChecked}
use Rattle.eco_tokens.specs.Forms.{is_plain}
use Rattle.eco_vread.specs.Syntax.{Identifier, Term, Instance, Statement, Port, File, name_of}
use Rattle.eco_vread.specs.Syntax.Term.{low, high, net}
use Rattle.eco_vread.specs.Syntax.Statement.{input, output, wire, gates}
use Rattle.eco_vread.specs.Meaning.{operand_of, is_in, is_out, header_that, declared_inputs, declared_outputs, declared_wires, declared_gates, statements_gates, own_prefix, declared_of}
use Rattle.eco_vwrite.proofs.WellFormed.{declarations}

-- a name as an identifier: plain, or escaped
abbrev pub identifier_by : Bool → List ℕ → Identifier
identifier_by true name = record { escaped = false; text = name }
identifier_by false name = record { escaped = true; text = 92 ∷ name }

abbrev pub identifier : List ℕ → Identifier
identifier name = identifier_by (is_plain name) name

abbrev pub term_for : Operand → Term
term_for Zero = low
term_for One = high
term_for (Named name) = net (identifier name)

-- the statements of ports, wires and gates
abbrev pub port_statement : (List ℕ → Bool) → List ℕ → Statement
port_statement is_input name = cond (is_input name) (input false (identifier name ∷ [])) (output false (identifier name ∷ []))

abbrev pub wire_statement : List ℕ → Statement
wire_statement name = wire (identifier name ∷ [])

abbrev pub instance_for : NamedGate → Instance
instance_for g = record { label = None; outputs = identifier g.out ∷ []; inputs = map term_for g.terms }

abbrev pub gate_statement : NamedGate → Statement
gate_statement g = gates g.kind (instance_for g ∷ [])

abbrev pub statements_for : Circuit → List Statement
statements_for n =
    map (port_statement (has n.inputs)) n.ports ++ (map wire_statement n.wires ++ map gate_statement n.gates)

-- a port of the header, whose direction is declared behind it
abbrev pub port_for : List ℕ → Port
port_for name = record { direction = None; name = identifier name }

abbrev pub file_for : Circuit → File
file_for n = record {
  title = identifier n.title;
  header = Some (map port_for n.ports);
  statements = statements_for n;
}

-- an identifier names its name
named_by : (plain : Bool) (name : List ℕ) → name_of (identifier_by plain name) ≡ name
named_by true name = refl
named_by false name = refl

named_again : (name : List ℕ) → name_of (identifier name) ≡ name
named_again name = named_by (is_plain name) name

names_again : (list : List (List ℕ)) → map (λ p. name_of p.name) (map port_for list) ≡ list
names_again [] = refl
names_again (name ∷ list) = ap (λ x. x ∷ map (λ p. name_of p.name) (map port_for list)) (named_again name) ∙ ap (λ xs. name ∷ xs) (names_again list)

-- the header declares nothing
header_inputs : (list : List (List ℕ)) → header_that is_in (Some (map port_for list)) ≡ []
header_inputs [] = refl
header_inputs (name ∷ list) = refl

header_outputs : (list : List (List ℕ)) → header_that is_out (Some (map port_for list)) ≡ []
header_outputs [] = refl
header_outputs (name ∷ list) = refl

operand_again : (term : Operand) → operand_of (term_for term) ≡ term
operand_again Zero = refl
operand_again One = refl
operand_again (Named name) = ap Named (named_again name)

operands_again : (terms : List Operand) → map operand_of (map term_for terms) ≡ terms
operands_again [] = refl
operands_again (term ∷ terms) =
    ap (λ x. x ∷ map operand_of (map term_for terms)) (operand_again term) ∙ ap (λ xs. term ∷ xs) (operands_again terms)

-- what ports declare
port_input : (is_input : Bool) (name : List ℕ) (rest kept : List (List ℕ)) → rest ≡ kept → declared_inputs (cond is_input (input false (identifier name ∷ [])) (output false (identifier name ∷ []))) ++ rest ≡ cond is_input (name ∷ kept) kept
port_input true name rest kept e = ap (λ x. x ∷ rest) (named_again name) ∙ ap (λ xs. name ∷ xs) e
port_input false name rest kept e = e

port_output : (is_input : Bool) (name : List ℕ) (rest kept : List (List ℕ)) → rest ≡ kept → declared_outputs (cond is_input (input false (identifier name ∷ [])) (output false (identifier name ∷ []))) ++ rest ≡ cond (not is_input) (name ∷ kept) kept
port_output true name rest kept e = e
port_output false name rest kept e = ap (λ x. x ∷ rest) (named_again name) ∙ ap (λ xs. name ∷ xs) e

port_inputs : (is_input : List ℕ → Bool) (ports : List (List ℕ)) → flat_map declared_inputs (map (port_statement is_input) ports) ≡ filter is_input ports
port_inputs is_input [] = refl
port_inputs is_input (port ∷ ports) =
    port_input (is_input port) port (flat_map declared_inputs (map (port_statement is_input) ports)) (filter is_input ports) (port_inputs is_input ports)

port_outputs : (is_input : List ℕ → Bool) (ports : List (List ℕ)) → flat_map declared_outputs (map (port_statement is_input) ports) ≡ filter (λ name. not (is_input name)) ports
port_outputs is_input [] = refl
port_outputs is_input (port ∷ ports) =
    port_output (is_input port) port (flat_map declared_outputs (map (port_statement is_input) ports)) (filter (λ name. not (is_input name)) ports) (port_outputs is_input ports)

port_wires_by : (is_input : Bool) (name : List ℕ) → declared_wires (cond is_input (input false (identifier name ∷ [])) (output false (identifier name ∷ []))) ≡ []
port_wires_by true name = refl
port_wires_by false name = refl

-- statements of ports and of wires have no gates, and those of gates have theirs; none numbers a net
port_gates_by : (prefix : List ℕ) (is_input : Bool) (name : List ℕ) (more : List Statement) → statements_gates prefix 0 (cond is_input (input false (identifier name ∷ [])) (output false (identifier name ∷ [])) ∷ more) ≡ statements_gates prefix 0 more
port_gates_by prefix true name more = refl
port_gates_by prefix false name more = refl

port_gates : (prefix : List ℕ) (is_input : List ℕ → Bool) (ports : List (List ℕ)) (more : List Statement) → statements_gates prefix 0 (map (port_statement is_input) ports ++ more) ≡ statements_gates prefix 0 more
port_gates prefix is_input [] more = refl
port_gates prefix is_input (port ∷ ports) more =
    port_gates_by prefix (is_input port) port (map (port_statement is_input) ports ++ more) ∙ port_gates prefix is_input ports more

wire_gates : (prefix : List ℕ) (wires : List (List ℕ)) (more : List Statement) → statements_gates prefix 0 (map wire_statement wires ++ more) ≡ statements_gates prefix 0 more
wire_gates prefix [] more = refl
wire_gates prefix (name ∷ wires) more = wire_gates prefix wires more

-- statements that declare nothing of a sort
nothing_of : {X A : Type 0} (declared : Statement → List A) (statement : X → Statement) (xs : List X) → ((x : X) → declared (statement x) ≡ []) → flat_map declared (map statement xs) ≡ []
nothing_of declared statement [] h = refl
nothing_of declared statement (x ∷ xs) h =
    ap (λ first. first ++ flat_map declared (map statement xs)) (h x) ∙ nothing_of declared statement xs h

-- statements that declare one thing each
one_of : {X A : Type 0} (declared : Statement → List A) (statement : X → Statement) (what : X → A) (xs : List X) → ((x : X) → declared (statement x) ≡ what x ∷ []) → flat_map declared (map statement xs) ≡ map what xs
one_of declared statement what [] h = refl
one_of declared statement what (x ∷ xs) h =
    ap (λ first. first ++ flat_map declared (map statement xs)) (h x) ∙ ap (λ rest. what x ∷ rest) (one_of declared statement what xs h)

gate_by : Kind → List ℕ → List Operand → NamedGate
gate_by kind out terms = record { kind = kind; out = out; terms = terms }

gate_again : (prefix : List ℕ) (g : NamedGate) → declared_gates prefix 0 (gate_statement g) ≡ g ∷ []
unfolding gate_by
gate_again prefix g =
    ap (λ out. gate_by g.kind out (map operand_of (map term_for g.terms)) ∷ []) (named_again g.out)
    ∙ ap (λ terms. gate_by g.kind g.out terms ∷ []) (operands_again g.terms)

gates_again : (prefix : List ℕ) (gs : List NamedGate) → statements_gates prefix 0 (map gate_statement gs) ≡ gs
gates_again prefix [] = refl
gates_again prefix (g ∷ gs) =
    ap (λ here. here ++ statements_gates prefix 0 (map gate_statement gs)) (gate_again prefix g) ∙ ap (λ rest. g ∷ rest) (gates_again prefix gs)

-- each kind of declaration, over the three sorts of statements
in_parts : {A : Type 0} (declared : Statement → List A) (n : Circuit) (ps ws gs : List A) → flat_map declared (map (port_statement (has n.inputs)) n.ports) ≡ ps → flat_map declared (map wire_statement n.wires) ≡ ws → flat_map declared (map gate_statement n.gates) ≡ gs → flat_map declared (statements_for n) ≡ ps ++ (ws ++ gs)
in_parts declared n ps ws gs hp hw hg =
    flat_map-append declared (map (port_statement (has n.inputs)) n.ports) (map wire_statement n.wires ++ map gate_statement n.gates)
    ∙ ap (λ xs. xs ++ flat_map declared (map wire_statement n.wires ++ map gate_statement n.gates)) hp
    ∙ ap (λ xs. ps ++ xs) (flat_map-append declared (map wire_statement n.wires) (map gate_statement n.gates))
    ∙ ap (λ xs. ps ++ (xs ++ flat_map declared (map gate_statement n.gates))) hw
    ∙ ap (λ xs. ps ++ (ws ++ xs)) hg

same_filter : (p q : List ℕ → Bool) (xs : List (List ℕ)) → ((x : List ℕ) → Contains xs x → p x ≡ q x) → filter p xs ≡ filter q xs
same_filter p q [] h = refl
same_filter p q (x ∷ xs) h =
    ap (λ b. cond b (x ∷ filter p xs) (filter p xs)) (h x (Contains_first x xs))
    ∙ ap (λ ys. cond (q x) (x ∷ ys) ys) (same_filter p q xs (λ y c. h y (Contains_later x y xs c)))

declared_by : List ℕ → List (List ℕ) → List (List ℕ) → List (List ℕ) → List (List ℕ) → List NamedGate → Declared
declared_by title header inputs outputs wires gs = record {
  title = title;
  header = header;
  inputs = inputs;
  outputs = outputs;
  wires = wires;
  gates = gs;
}

-- The tree declares what the netlist is.
pub declared_again : (n : Circuit) → IsChecked n → declared_of (file_for n) ≡ declarations n
unfolding declared_by
declared_again n checked =
    let d = declared_of (file_for n) in
    let ins : d.inputs ≡ n.inputs =
    ap (λ front. front ++ flat_map declared_inputs (statements_for n)) (header_inputs n.ports) ∙
    in_parts declared_inputs n (filter (has n.inputs) n.ports) [] [] (port_inputs (has n.inputs) n.ports)
    (nothing_of declared_inputs wire_statement n.wires (λ x. refl)) (nothing_of declared_inputs gate_statement n.gates (λ x. refl))
    ∙ append-nil (filter (has n.inputs) n.ports) ∙ sym checked.inputs in
    let directed : filter (λ name. not (has n.inputs name)) n.ports ≡ filter (has n.outputs) n.ports =
    same_filter (λ name. not (has n.inputs name)) (has n.outputs) n.ports (λ name c. ap not (checked.directed name c) ∙ not-not (has n.outputs name)) in
    let outs : d.outputs ≡ n.outputs =
    ap (λ front. front ++ flat_map declared_outputs (statements_for n)) (header_outputs n.ports) ∙
    in_parts declared_outputs n (filter (λ name. not (has n.inputs name)) n.ports) [] [] (port_outputs (has n.inputs) n.ports)
    (nothing_of declared_outputs wire_statement n.wires (λ x. refl)) (nothing_of declared_outputs gate_statement n.gates (λ x. refl))
    ∙ append-nil (filter (λ name. not (has n.inputs name)) n.ports) ∙ directed ∙ sym checked.outputs in
    let ws : flat_map declared_wires (statements_for n) ≡ n.wires =
    in_parts declared_wires n [] (map (λ x. x) n.wires) [] (nothing_of declared_wires (port_statement (has n.inputs)) n.ports (λ x. port_wires_by (has n.inputs x) x))
    (one_of declared_wires wire_statement (λ x. x) n.wires (λ x. ap (λ y. y ∷ []) (named_again x))) (nothing_of declared_wires gate_statement n.gates (λ x. refl))
    ∙ append-nil (map (λ x. x) n.wires) ∙ map-id n.wires in
    let prefix = own_prefix (file_for n) in
    let gs : d.gates ≡ n.gates =
    port_gates prefix (has n.inputs) n.ports (map wire_statement n.wires ++ map gate_statement n.gates)
    ∙ wire_gates prefix n.wires (map gate_statement n.gates) ∙ gates_again prefix n.gates in
    ap (λ title. declared_by title d.header d.inputs d.outputs d.wires d.gates) (named_again n.title)
    ∙ ap (λ header. declared_by n.title header d.inputs d.outputs d.wires d.gates) (names_again n.ports)
    ∙ ap (λ inputs. declared_by n.title n.ports inputs d.outputs d.wires d.gates) ins
    ∙ ap (λ outputs. declared_by n.title n.ports n.inputs outputs d.wires d.gates) outs
    ∙ ap (λ wires. declared_by n.title n.ports n.inputs n.outputs wires d.gates) ws
    ∙ ap (declared_by n.title n.ports n.inputs n.outputs n.wires) gs
