-- The syntax tree of a netlist's text, as a file of gates alone.
use Rattle.std.proofs.Common.{◌≡◌, ℕ, Bool, true, false, cond, List, [], ◌∷◌, ◌++◌, map, Some, refl, ◌∙◌, ap}
use Rattle.std.proofs.lemmas.List.{map-append}
use Rattle.eco_meaning.specs.Names.{has}
use Rattle.eco_meaning.specs.Circuit.{Circuit, NamedGate}
use Rattle.eco_vread.specs.Syntax as whole
use Rattle.eco_plain.specs.Plain.{Statement, File}
use Rattle.eco_plain.specs.Plain.Statement.{inputs, outputs, wires, gates}
use Rattle.eco_plain.proofs.Embedding.{whole_statement, whole_port, whole_file}
use Rattle.eco_vwrite.proofs.Trees.{identifier, port_for, port_statement, wire_statement, gate_statement, instance_for, statements_for, file_for}

abbrev plain_port : (List ℕ → Bool) → List ℕ → Statement
plain_port is_input name = cond (is_input name) (inputs (identifier name ∷ [])) (outputs (identifier name ∷ []))

abbrev plain_wire : List ℕ → Statement
plain_wire name = wires (identifier name ∷ [])

abbrev plain_gate : NamedGate → Statement
plain_gate g = gates g.kind (instance_for g ∷ [])

abbrev pub plain_for : Circuit → File
plain_for n = record {
  title = identifier n.title;
  ports = map identifier n.ports;
  statements = map (plain_port (has n.inputs)) n.ports ++ (map plain_wire n.wires ++ map plain_gate n.gates);
}

-- ---- in the whole grammar it is the tree of the text

ports_whole : (names : List (List ℕ)) → map whole_port (map identifier names) ≡ map port_for names
ports_whole [] = refl
ports_whole (name ∷ names) = ap (λ rest. port_for name ∷ rest) (ports_whole names)

port_whole_by : (is_input : Bool) (name : List ℕ) → whole_statement (cond is_input (inputs (identifier name ∷ [])) (outputs (identifier name ∷ []))) ≡ cond is_input (whole.Statement.input false (identifier name ∷ [])) (whole.Statement.output false (identifier name ∷ []))
port_whole_by true name = refl
port_whole_by false name = refl

each_whole : {X : Type 0} (plain : X → Statement) (tree : X → whole.Statement) → ((x : X) → whole_statement (plain x) ≡ tree x) → (xs : List X) → map whole_statement (map plain xs) ≡ map tree xs
each_whole plain tree same [] = refl
each_whole plain tree same (x ∷ xs) =
    ap (λ here. here ∷ map whole_statement (map plain xs)) (same x) ∙ ap (λ rest. tree x ∷ rest) (each_whole plain tree same xs)

statements_whole : (n : Circuit) → map whole_statement (plain_for n).statements ≡ statements_for n
statements_whole n =
    let ports = map (plain_port (has n.inputs)) n.ports in
    let lines = map plain_wire n.wires in
    let last = map plain_gate n.gates in
    map-append whole_statement ports (lines ++ last)
    ∙ ap (λ rest. map whole_statement ports ++ rest) (map-append whole_statement lines last)
    ∙ ap (λ list. list ++ (map whole_statement lines ++ map whole_statement last)) (each_whole (plain_port (has n.inputs)) (port_statement (has n.inputs)) (λ name. port_whole_by (has n.inputs name) name) n.ports)
    ∙ ap (λ list. map (port_statement (has n.inputs)) n.ports ++ (list ++ map whole_statement last)) (each_whole plain_wire wire_statement (λ name. refl) n.wires)
    ∙ ap (λ list. map (port_statement (has n.inputs)) n.ports ++ (map wire_statement n.wires ++ list)) (each_whole plain_gate gate_statement (λ g. refl) n.gates)

pub whole_again : (n : Circuit) → whole_file (plain_for n) ≡ file_for n
whole_again n =
    ap (λ ports. record { title = identifier n.title; header = Some ports; statements = map whole_statement (plain_for n).statements }) (ports_whole n.ports)
    ∙ ap (λ list. record { title = identifier n.title; header = Some (map port_for n.ports); statements = list }) (statements_whole n)
