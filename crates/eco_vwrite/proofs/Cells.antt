-- The cells that a netlist's text is made of.
use Rattle.std.proofs.Common.{ℕ, Bool, true, false, List, [], ◌∷◌, ◌++◌, codes, cond}
use Rattle.std.specs.List.{flat_map, join_by}
use Rattle.eco_meaning.specs.declared.name.Operand.{Operand}
use Rattle.eco_meaning.specs.declared.name.Operand.TheVariants.{Zero, One, Named}
use Rattle.eco_meaning.specs.Names.{has}
use Rattle.eco_meaning.specs.Circuit.{Circuit, NamedGate}
use Rattle.eco_tokens.specs.declared.TokenKind.TheVariants.{Simple, Word, Escaped, Constant, Mark}
use Rattle.eco_tokens.specs.Forms.{is_plain}
use Rattle.eco_tokens.specs.Cells.{Cell}
use Rattle.eco_vread.specs.Grammar.{kind_word}

abbrev pub word_cell : List ℕ → List ℕ → Cell
word_cell text space = record { kind = Word; text = text; space = space }

abbrev pub mark_cell : List ℕ → List ℕ → Cell
mark_cell text space = record { kind = Mark; text = text; space = space }

abbrev pub constant_cell : List ℕ → Cell
constant_cell text = record { kind = Constant; text = text; space = [] }

-- a name, plain or escaped
abbrev pub name_cell_by : Bool → List ℕ → List ℕ → Cell
name_cell_by true name space = record { kind = Simple; text = name; space = space }
name_cell_by false name space = record { kind = Escaped; text = 92 ∷ name; space = 32 ∷ space }

abbrev pub name_cell : List ℕ → List ℕ → Cell
name_cell space name = name_cell_by (is_plain name) name space

abbrev pub operand_cell : Operand → Cell
operand_cell Zero = constant_cell (codes "1'b0")
operand_cell One = constant_cell (codes "1'b1")
operand_cell (Named name) = name_cell [] name

-- cells with commas between, and what ends them
abbrev pub comma : Cell
comma = mark_cell (codes ",") (codes " ")

abbrev pub joined : {X : Type 0} → (X → Cell) → List X → List Cell
joined cell xs = join_by (λ x. cell x ∷ []) (comma ∷ []) xs

abbrev pub semicolon : Cell
semicolon = mark_cell (codes ";") (codes "\n")

abbrev pub line_end : List Cell
line_end = mark_cell (codes ")") [] ∷ semicolon ∷ []

-- the lines
abbrev pub header_cells : Circuit → List Cell
header_cells n =
    word_cell (codes "module") (codes " ") ∷ name_cell (codes " ") n.title ∷ mark_cell (codes "(") [] ∷ (joined (name_cell []) n.ports ++ line_end)

abbrev pub word_line : List ℕ → List ℕ → List Cell
word_line word name = word_cell word (codes " ") ∷ name_cell [] name ∷ semicolon ∷ []

abbrev pub port_cells : (List ℕ → Bool) → List ℕ → List Cell
port_cells is_input name = word_line (cond (is_input name) (codes "input") (codes "output")) name

abbrev pub wire_cells : List ℕ → List Cell
wire_cells name = word_line (codes "wire") name

abbrev pub gate_cells : NamedGate → List Cell
gate_cells g =
    word_cell (kind_word g.kind) (codes " ") ∷ mark_cell (codes "(") [] ∷ (joined operand_cell (Named g.out ∷ g.terms) ++ line_end)

abbrev pub end_cells : List Cell
end_cells = word_cell (codes "endmodule") (codes "\n") ∷ []

abbrev pub cells_of : Circuit → List Cell
cells_of n =
    header_cells n ++ (flat_map (port_cells (has n.inputs)) n.ports ++ (flat_map wire_cells n.wires ++ (flat_map gate_cells n.gates ++ end_cells)))
