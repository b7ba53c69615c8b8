-- The cells of a netlist's text say what the grammar spells its tree with.
use Rattle.std.proofs.Common.{◌≡◌, ℕ, Bool, true, false, List, [], ◌∷◌, ◌++◌, map, cond, codes, refl, sym, ◌∙◌, ap, append_assoc, append-nil}
use Rattle.std.specs.List.{flat_map}
use Rattle.std.proofs.lemmas.List.{map-append}
use Rattle.std.proofs.lemmas.List.Concat.{flat_map-append}
use Rattle.eco_meaning.specs.declared.name.Operand.{Operand}
use Rattle.eco_meaning.specs.declared.name.Operand.TheVariants.{Zero, One, Named}
use Rattle.eco_meaning.specs.Names.{has}
use Rattle.eco_meaning.specs.Circuit.{Circuit, NamedGate}
use Rattle.eco_tokens.specs.Forms.{is_plain}
use Rattle.eco_tokens.specs.Said.{Said}
use Rattle.eco_tokens.specs.Cells.{Cell, said_by}
use Rattle.eco_vread.specs.Syntax.{Statement}
use Rattle.eco_vread.specs.Grammar.{word, mark, kind_word, spell_name, spell_port, spell_term, spell_statement, commas, spelling}
use Rattle.eco_vwrite.proofs.Trees.{identifier, identifier_by, term_for, port_for, port_statement, wire_statement, gate_statement, statements_for, file_for}
use Rattle.eco_vwrite.proofs.Cells.{name_cell, name_cell_by, operand_cell, comma, joined, line_end, header_cells, word_line, port_cells, wire_cells, gate_cells, end_cells, cells_of}

said_by_name : (plain : Bool) (name space : List ℕ) → said_by (name_cell_by plain name space) ∷ [] ≡ spell_name (identifier_by plain name)
said_by_name true name space = refl
said_by_name false name space = refl

name_said : (space name : List ℕ) → said_by (name_cell space name) ∷ [] ≡ spell_name (identifier name)
name_said space name = said_by_name (is_plain name) name space

operand_said : (term : Operand) → said_by (operand_cell term) ∷ [] ≡ spell_term (term_for term)
operand_said Zero = refl
operand_said One = refl
operand_said (Named name) = name_said [] name

-- lists with commas
others_said : {X Y : Type 0} (cell : X → Cell) (tree : X → Y) (spell : Y → List Said) (xs : List X) → ((x : X) → said_by (cell x) ∷ [] ≡ spell (tree x)) → map said_by (flat_map (λ x. comma ∷ cell x ∷ []) xs) ≡ flat_map (λ y. mark (codes ",") ∷ spell y) (map tree xs)
others_said cell tree spell [] h = refl
others_said cell tree spell (x ∷ xs) h =
    ap (λ rest. mark (codes ",") ∷ said_by (cell x) ∷ rest) (others_said cell tree spell xs h)
    ∙ ap (λ here. mark (codes ",") ∷ (here ++ flat_map (λ y. mark (codes ",") ∷ spell y) (map tree xs))) (h x)

joined_said : {X Y : Type 0} (cell : X → Cell) (tree : X → Y) (spell : Y → List Said) (xs : List X) → ((x : X) → said_by (cell x) ∷ [] ≡ spell (tree x)) → map said_by (joined cell xs) ≡ commas spell (map tree xs)
joined_said cell tree spell [] h = refl
joined_said cell tree spell (x ∷ xs) h =
    ap (λ rest. said_by (cell x) ∷ rest) (others_said cell tree spell xs h)
    ∙ ap (λ here. here ++ flat_map (λ y. mark (codes ",") ∷ spell y) (map tree xs)) (h x)

-- a line for each
lines_said : {X : Type 0} (line : X → List Cell) (statement : X → Statement) (xs : List X) → ((x : X) → map said_by (line x) ≡ spell_statement (statement x)) → map said_by (flat_map line xs) ≡ flat_map spell_statement (map statement xs)
lines_said line statement [] h = refl
lines_said line statement (x ∷ xs) h =
    map-append said_by (line x) (flat_map line xs)
    ∙ ap (λ here. here ++ map said_by (flat_map line xs)) (h x)
    ∙ ap (λ rest. spell_statement (statement x) ++ rest) (lines_said line statement xs h)

word_line_said : (text name : List ℕ) → map said_by (word_line text name) ≡ word text ∷ (spell_name (identifier name) ++ mark (codes ";") ∷ [])
word_line_said text name = ap (λ here. word text ∷ (here ++ mark (codes ";") ∷ [])) (name_said [] name)

port_said_by : (is_input : Bool) (name : List ℕ) → word (cond is_input (codes "input") (codes "output")) ∷ (spell_name (identifier name) ++ mark (codes ";") ∷ []) ≡ spell_statement (cond is_input (Statement.input false (identifier name ∷ [])) (Statement.output false (identifier name ∷ [])))
port_said_by true name = refl
port_said_by false name = refl

port_said : (is_input : List ℕ → Bool) (name : List ℕ) → map said_by (port_cells is_input name) ≡ spell_statement (port_statement is_input name)
port_said is_input name =
    word_line_said (cond (is_input name) (codes "input") (codes "output")) name ∙ port_said_by (is_input name) name

wire_said : (name : List ℕ) → map said_by (wire_cells name) ≡ spell_statement (wire_statement name)
wire_said name = word_line_said (codes "wire") name

gate_said : (g : NamedGate) → map said_by (gate_cells g) ≡ spell_statement (gate_statement g)
gate_said g =
    let terms = Named g.out ∷ g.terms in
    ap (λ rest. word (kind_word g.kind) ∷ mark (codes "(") ∷ rest) (map-append said_by (joined operand_cell terms) line_end)
    ∙ ap (λ here. word (kind_word g.kind) ∷ mark (codes "(") ∷ (here ++ mark (codes ")") ∷ mark (codes ";") ∷ []))
    (joined_said operand_cell term_for spell_term terms operand_said)
    ∙ ap (λ rest. word (kind_word g.kind) ∷ mark (codes "(") ∷ rest)
    (sym (append_assoc (commas spell_term (map term_for terms)) (mark (codes ")") ∷ []) (mark (codes ";") ∷ [])))
    ∙ ap (λ list. word (kind_word g.kind) ∷ mark (codes "(") ∷ (list ++ mark (codes ";") ∷ []))
    (sym (append-nil (commas spell_term (map term_for terms) ++ mark (codes ")") ∷ [])))

header_said : (n : Circuit) (rest : List Said) → map said_by (header_cells n) ++ rest ≡ word (codes "module") ∷ (spell_name (identifier n.title) ++ (mark (codes "(") ∷ (commas spell_port (map port_for n.ports) ++ mark (codes ")") ∷ []) ++ (mark (codes ";") ∷ rest)))
header_said n rest =
    let ports = commas spell_port (map port_for n.ports) in
    let ends : List Said = mark (codes ")") ∷ mark (codes ";") ∷ [] in
    ap (λ list. word (codes "module") ∷ said_by (name_cell (codes " ") n.title) ∷ mark (codes "(") ∷ (list ++ rest)) (map-append said_by (joined (name_cell []) n.ports) line_end)
    ∙ ap (λ list. word (codes "module") ∷ said_by (name_cell (codes " ") n.title) ∷ mark (codes "(") ∷ ((list ++ ends) ++ rest))
    (joined_said (name_cell []) port_for spell_port n.ports (name_said []))
    ∙ ap (λ list. word (codes "module") ∷ said_by (name_cell (codes " ") n.title) ∷ mark (codes "(") ∷ list)
    (append_assoc ports ends rest ∙ sym (append_assoc ports (mark (codes ")") ∷ []) (mark (codes ";") ∷ rest)))
    ∙ ap (λ here. word (codes "module") ∷ (here ++ (mark (codes "(") ∷ (ports ++ mark (codes ")") ∷ []) ++ (mark (codes ";") ∷ rest))))
    (name_said (codes " ") n.title)

body_said : (n : Circuit) → map said_by (flat_map (port_cells (has n.inputs)) n.ports ++ (flat_map wire_cells n.wires ++ (flat_map gate_cells n.gates ++ end_cells))) ≡ flat_map spell_statement (statements_for n) ++ word (codes "endmodule") ∷ []
body_said n =
    let ports = flat_map (port_cells (has n.inputs)) n.ports in
    let wires = flat_map wire_cells n.wires in
    let gs = flat_map gate_cells n.gates in
    let port_statements = map (port_statement (has n.inputs)) n.ports in
    let wire_statements = map wire_statement n.wires in
    let gate_statements = map gate_statement n.gates in
    let last : List Said = word (codes "endmodule") ∷ [] in
    let ps = flat_map spell_statement port_statements in
    let ws = flat_map spell_statement wire_statements in
    let split : flat_map spell_statement (statements_for n) ≡ ps ++ (ws ++ flat_map spell_statement gate_statements) =
    flat_map-append spell_statement port_statements (wire_statements ++ gate_statements)
    ∙ ap (λ xs. ps ++ xs) (flat_map-append spell_statement wire_statements gate_statements) in
    map-append said_by ports (wires ++ (gs ++ end_cells))
    ∙ ap (λ xs. map said_by ports ++ xs) (map-append said_by wires (gs ++ end_cells))
    ∙ ap (λ xs. map said_by ports ++ (map said_by wires ++ xs)) (map-append said_by gs end_cells)
    ∙ ap (λ xs. xs ++ (map said_by wires ++ (map said_by gs ++ last))) (lines_said (port_cells (has n.inputs)) (port_statement (has n.inputs)) n.ports (port_said (has n.inputs)))
    ∙ ap (λ xs. ps ++ (xs ++ (map said_by gs ++ last))) (lines_said wire_cells wire_statement n.wires wire_said)
    ∙ ap (λ xs. ps ++ (ws ++ (xs ++ last))) (lines_said gate_cells gate_statement n.gates gate_said)
    ∙ ap (λ xs. ps ++ xs) (sym (append_assoc ws (flat_map spell_statement gate_statements) last))
    ∙ sym (append_assoc ps (ws ++ flat_map spell_statement gate_statements) last)
    ∙ ap (λ xs. xs ++ last) (sym split)

-- What the cells say is the spelling of the tree.
pub cells_said : (n : Circuit) → map said_by (cells_of n) ≡ spelling (file_for n)
cells_said n =
    let body = flat_map (port_cells (has n.inputs)) n.ports ++ (flat_map wire_cells n.wires ++ (flat_map gate_cells n.gates ++ end_cells)) in
    map-append said_by (header_cells n) body
    ∙ ap (λ xs. map said_by (header_cells n) ++ xs) (body_said n)
    ∙ header_said n (flat_map spell_statement (statements_for n) ++ word (codes "endmodule") ∷ [])
