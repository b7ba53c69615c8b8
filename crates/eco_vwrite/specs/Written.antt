-- The canonical text of a netlist: lines, each of which ends in a line feed.
use Rattle.std.specs.Prelude.{ℕ, List, ◌∷◌, ◌++◌, codes, if◌then◌else◌}
use Rattle.std.specs.List.{flat_map, join_by}
use Rattle.eco_meaning.specs.declared.name.Operand.{Operand}
use Rattle.eco_meaning.specs.declared.name.Operand.TheVariants.{Zero, One, Named}
use Rattle.eco_meaning.specs.Names.{has}
use Rattle.eco_meaning.specs.Circuit.{Circuit, NamedGate}
use Rattle.eco_tokens.specs.Forms.{is_plain}
use Rattle.eco_vread.specs.Grammar.{kind_word}

-- a name: plain where it is a simple identifier that isn't reserved, else a backslash, the name and one blank
abbrev pub name_text : List ℕ → List ℕ
name_text name = if is_plain name then name else codes "\\" ++ name ++ codes " "

-- what a gate's input reads
abbrev pub operand_text : Operand → List ℕ
operand_text Zero = codes "1'b0"
operand_text One = codes "1'b1"
operand_text (Named name) = name_text name

-- `module NAME (PORT, PORT, ..);`
abbrev pub header_line : Circuit → List ℕ
header_line n =
    codes "module " ++ name_text n.title ++ codes " (" ++ join_by name_text (codes ", ") n.ports ++ codes ");\n"

-- `input NAME;` or `output NAME;`
abbrev pub port_line : Circuit → List ℕ → List ℕ
port_line n name = (if has n.inputs name then codes "input " else codes "output ") ++ name_text name ++ codes ";\n"

-- `wire NAME;`
abbrev pub wire_line : List ℕ → List ℕ
wire_line name = codes "wire " ++ name_text name ++ codes ";\n"

-- `KIND (OUTPUT, INPUT, ..);`
abbrev pub gate_line : NamedGate → List ℕ
gate_line g =
    kind_word g.kind ++ codes " (" ++ join_by operand_text (codes ", ") (Named g.out ∷ g.terms) ++ codes ");\n"

-- the header, a line for each port, each wire and each gate, and `endmodule`
abbrev pub written : Circuit → List ℕ
written n =
    header_line n ++ flat_map (port_line n) n.ports ++ flat_map wire_line n.wires ++ flat_map gate_line n.gates
    ++ codes "endmodule\n"
