-- The cells of a netlist's text are its bytes, and a reader of tokens finds them again.
use Rattle.std.proofs.Common.{◌≡◌, ℕ, Bool, true, false, not, ◌&&◌, ◌==◌, List, [], ◌∷◌, ◌++◌, cond, codes, length, refl, sym, ◌∙◌, ap, append_assoc, append-nil, inl, inr}
use Rattle.std.specs.Prelude.{IsTrue}
use Rattle.std.specs.List.{Contains, flat_map, join_by, list_all, AllByRecursion}
use Rattle.std.proofs.lemmas.Bool.{false≢true, and_parts}
use Rattle.eco_meaning.specs.declared.kind.Kind.{Kind}
use Rattle.eco_meaning.specs.declared.kind.Kind.TheVariants.{And, Nand, Or, Nor, Xor, Xnor, Buf, Not}
use Rattle.eco_meaning.specs.declared.name.Operand.{Operand}
use Rattle.eco_meaning.specs.declared.name.Operand.TheVariants.{Zero, One, Named}
use Rattle.eco_meaning.specs.Names.{has, is_name, is_printing}
use Rattle.eco_meaning.specs.Circuit.{Circuit, NamedGate, names}
use Rattle.eco_netlist.specs.Netlists.{IsChecked}
use Rattle.std.proofs.lemmas.List.Elements.{Contains-append_cases}
use Rattle.eco_lists.proofs.Members.{Contains_first, Contains_later}
use Rattle.eco_tokens.specs.Bytes.{is_separator, is_blank}
use Rattle.eco_tokens.specs.Words.{is_reserved, reserved}
use Rattle.eco_tokens.specs.Forms.{is_plain, is_simple, is_visible, is_constant, is_mark_text, has_form}
use Rattle.eco_tokens.specs.Said.{written_by}
use Rattle.eco_tokens.specs.Cells.{Cell, printed, is_closed, is_mark_next, is_parted, is_alone, IsCell, ArePrinted, ends_closed}
use Rattle.eco_tokens.proofs.Names.{written_form}
use Rattle.eco_tokens.proofs.Printed.{printed-append, printed-flat_map, printed_before_mark, AreClosed, AreClosed-append, AreClosed-flat_map}
use Rattle.eco_vread.specs.Grammar.{kind_word}
use Rattle.eco_vwrite.specs.Written.{name_text, operand_text, header_line, port_line, wire_line, gate_line, written}
use Rattle.eco_vwrite.proofs.Cells.{word_cell, mark_cell, constant_cell, name_cell, name_cell_by, operand_cell, comma, joined, semicolon, line_end, header_cells, word_line, port_cells, wire_cells, gate_cells, end_cells, cells_of}

-- the bytes of a name, with what stands behind it
name_printed_by : (plain : Bool) (name space rest : List ℕ) → (name_cell_by plain name space).text ++ ((name_cell_by plain name space).space ++ rest) ≡ cond plain name (codes "\\" ++ name ++ codes " ") ++ (space ++ rest)
name_printed_by true name space rest = refl
name_printed_by false name space rest = sym (append_assoc (92 ∷ name) (codes " ") (space ++ rest))

name_printed : (name space rest : List ℕ) → (name_cell space name).text ++ ((name_cell space name).space ++ rest) ≡ name_text name ++ (space ++ rest)
name_printed name space rest = name_printed_by (is_plain name) name space rest

name_alone : (name : List ℕ) → printed (name_cell [] name ∷ []) ≡ name_text name
name_alone name = name_printed name [] [] ∙ append-nil (name_text name)

operand_alone : (term : Operand) → printed (operand_cell term ∷ []) ≡ operand_text term
operand_alone Zero = refl
operand_alone One = refl
operand_alone (Named name) = name_alone name

-- the bytes of a list with commas
others_printed : {X : Type 0} (cell : X → Cell) (text : X → List ℕ) (xs : List X) → ((x : X) → printed (cell x ∷ []) ≡ text x) → printed (flat_map (λ x. comma ∷ cell x ∷ []) xs) ≡ flat_map (λ x. codes ", " ++ text x) xs
others_printed cell text [] h = refl
others_printed cell text (x ∷ xs) h =
    ap (λ list. codes ", " ++ list) (printed-append (cell x ∷ []) (flat_map (λ y. comma ∷ cell y ∷ []) xs))
    ∙ ap (λ here. codes ", " ++ (here ++ printed (flat_map (λ y. comma ∷ cell y ∷ []) xs))) (h x)
    ∙ ap (λ rest. codes ", " ++ (text x ++ rest)) (others_printed cell text xs h)

joined_printed : {X : Type 0} (cell : X → Cell) (text : X → List ℕ) (xs : List X) → ((x : X) → printed (cell x ∷ []) ≡ text x) → printed (joined cell xs) ≡ join_by text (codes ", ") xs
joined_printed cell text [] h = refl
joined_printed cell text (x ∷ xs) h =
    printed-append (cell x ∷ []) (flat_map (λ y. comma ∷ cell y ∷ []) xs)
    ∙ ap (λ here. here ++ printed (flat_map (λ y. comma ∷ cell y ∷ []) xs)) (h x)
    ∙ ap (λ rest. text x ++ rest) (others_printed cell text xs h)

-- the bytes of lines
same_lines : {X : Type 0} (f g : X → List ℕ) (xs : List X) → ((x : X) → f x ≡ g x) → flat_map f xs ≡ flat_map g xs
same_lines f g [] h = refl
same_lines f g (x ∷ xs) h = ap (λ here. here ++ flat_map f xs) (h x) ∙ ap (λ rest. g x ++ rest) (same_lines f g xs h)

lines_printed : {X : Type 0} (cells : X → List Cell) (line : X → List ℕ) (xs : List X) → ((x : X) → printed (cells x) ≡ line x) → printed (flat_map cells xs) ≡ flat_map line xs
lines_printed cells line xs h = printed-flat_map cells xs ∙ same_lines (λ x. printed (cells x)) line xs h

word_line_printed : (word name : List ℕ) → printed (word_line word name) ≡ (word ++ codes " ") ++ name_text name ++ codes ";\n"
word_line_printed word name =
    ap (λ rest. word ++ (codes " " ++ rest)) (name_printed name [] (codes ";\n"))
    ∙ sym (append_assoc word (codes " ") (name_text name ++ codes ";\n"))
    ∙ sym (append_assoc (word ++ codes " ") (name_text name) (codes ";\n"))

port_word : (is_input : Bool) → cond is_input (codes "input") (codes "output") ++ codes " " ≡ cond is_input (codes "input ") (codes "output ")
port_word true = refl
port_word false = refl

port_printed : (n : Circuit) (name : List ℕ) → printed (port_cells (has n.inputs) name) ≡ port_line n name
port_printed n name =
    word_line_printed (cond (has n.inputs name) (codes "input") (codes "output")) name
    ∙ ap (λ word. word ++ name_text name ++ codes ";\n") (port_word (has n.inputs name))

wire_printed : (name : List ℕ) → printed (wire_cells name) ≡ wire_line name
wire_printed name = word_line_printed (codes "wire") name

to_the_right : (a b c d : List ℕ) → a ++ b ++ c ++ d ≡ a ++ (b ++ (c ++ d))
to_the_right a b c d = simp append_assoc

to_the_right_of_five : (a b c d e : List ℕ) → a ++ b ++ c ++ d ++ e ≡ a ++ (b ++ (c ++ (d ++ e)))
to_the_right_of_five a b c d e = simp append_assoc

gate_printed : (g : NamedGate) → printed (gate_cells g) ≡ gate_line g
gate_printed g =
    let terms = Named g.out ∷ g.terms in
    ap (λ rest. kind_word g.kind ++ (codes " (" ++ rest)) (printed-append (joined operand_cell terms) line_end)
    ∙ ap (λ here. kind_word g.kind ++ (codes " (" ++ (here ++ codes ");\n"))) (joined_printed operand_cell operand_text terms operand_alone)
    ∙ sym (to_the_right (kind_word g.kind) (codes " (") (join_by operand_text (codes ", ") terms) (codes ");\n"))

header_printed : (n : Circuit) → printed (header_cells n) ≡ header_line n
header_printed n =
    ap (λ rest. codes "module " ++ rest) (name_printed n.title (codes " ") (codes "(" ++ printed (joined (name_cell []) n.ports ++ line_end)))
    ∙ ap (λ rest. codes "module " ++ (name_text n.title ++ (codes " (" ++ rest))) (printed-append (joined (name_cell []) n.ports) line_end)
    ∙ ap (λ here. codes "module " ++ (name_text n.title ++ (codes " (" ++ (here ++ codes ");\n")))) (joined_printed (name_cell []) name_text n.ports name_alone)
    ∙ sym (to_the_right_of_five (codes "module ") (name_text n.title) (codes " (") (join_by name_text (codes ", ") n.ports) (codes ");\n"))

-- The bytes of the cells are the text.
pub cells_printed : (n : Circuit) → printed (cells_of n) ≡ written n
cells_printed n =
    let ports = flat_map (port_cells (has n.inputs)) n.ports in
    let wires = flat_map wire_cells n.wires in
    let gates = flat_map gate_cells n.gates in
    printed-append (header_cells n) (ports ++ (wires ++ (gates ++ end_cells)))
    ∙ ap (λ xs. printed (header_cells n) ++ xs) (printed-append ports (wires ++ (gates ++ end_cells)))
    ∙ ap (λ xs. printed (header_cells n) ++ (printed ports ++ xs)) (printed-append wires (gates ++ end_cells))
    ∙ ap (λ xs. printed (header_cells n) ++ (printed ports ++ (printed wires ++ xs))) (printed-append gates end_cells)
    ∙ ap (λ xs. xs ++ (printed ports ++ (printed wires ++ (printed gates ++ codes "endmodule\n")))) (header_printed n)
    ∙ ap (λ xs. header_line n ++ (xs ++ (printed wires ++ (printed gates ++ codes "endmodule\n")))) (lines_printed (port_cells (has n.inputs)) (port_line n) n.ports (port_printed n))
    ∙ ap (λ xs. header_line n ++ (flat_map (port_line n) n.ports ++ (xs ++ (printed gates ++ codes "endmodule\n")))) (lines_printed wire_cells wire_line n.wires wire_printed)
    ∙ ap (λ xs. header_line n ++ (flat_map (port_line n) n.ports ++ (flat_map wire_line n.wires ++ (xs ++ codes "endmodule\n")))) (lines_printed gate_cells gate_line n.gates gate_printed)
    ∙ sym (to_the_right_of_five (header_line n) (flat_map (port_line n) n.ports) (flat_map wire_line n.wires) (flat_map gate_line n.gates) (codes "endmodule\n"))

-- all names are names: they have printing bytes
pub record IsNamed (n : Circuit) : Type 0 where
  pub title : IsTrue (is_name n.title)
  pub ports : (name : List ℕ) → Contains n.ports name → IsTrue (is_name name)
  pub wires : (name : List ℕ) → Contains n.wires name → IsTrue (is_name name)

-- a name's cell
visible : (name : List ℕ) → is_name name ≡ true → is_visible name ≡ true
unfolding is_visible
visible [] e = absurd (false≢true e)
visible (b ∷ more) e = (and_parts (not (length (b ∷ more) == 0)) (list_all is_printing (b ∷ more)) e).1

form_of : (plain : Bool) (name space : List ℕ) → has_form (written_by plain name).kind (written_by plain name).text ≡ true → has_form (name_cell_by plain name space).kind (name_cell_by plain name space).text ≡ true
form_of true name space h = h
form_of false name space h = h

parted_by : (plain : Bool) (name space : List ℕ) → is_parted (name_cell_by plain name space).kind (name_cell_by plain name space).space [] ≡ true
unfolding is_parted is_mark_next
parted_by true name [] = refl
parted_by true name (b ∷ space) = refl
parted_by false name space = refl

-- a fact of each member
each : {X : Type 0} (P : X → Type 0) (xs : List X) → ((x : X) → Contains xs x → P x) → AllByRecursion P xs
each P [] h = tt
each P (x ∷ xs) h = (h x (Contains_first x xs), each P xs (λ y c. h y (Contains_later x y xs c)))

-- a cell before which nothing is owed, and which a mark may follow
abbrev MayStand : Cell → Type 0
MayStand cell = ArePrinted (cell ∷ [])

spaced_form : (plain : Bool) (name space : List ℕ) → list_all is_blank space ≡ true → list_all is_blank (name_cell_by plain name space).space ≡ true
spaced_form true name space h = h
spaced_form false name space h = h

name_stays : (plain : Bool) (name space : List ℕ) → is_alone (name_cell_by plain name space).kind (name_cell_by plain name space).text ≡ true
unfolding is_alone
name_stays true name space = refl
name_stays false name space = refl

name_is_cell : (space name : List ℕ) → list_all is_blank space ≡ true → is_name name ≡ true → IsCell (name_cell space name)
name_is_cell space name blank e = record {
  form = form_of (is_plain name) name space (written_form name (visible name e));
  alone = name_stays (is_plain name) name space;
  space = spaced_form (is_plain name) name space blank;
}

name_may_stand : (name : List ℕ) → is_name name ≡ true → MayStand (name_cell [] name)
name_may_stand name e = (name_is_cell [] name refl e, parted_by (is_plain name) name [], tt)

-- a mark that is a separator
abbrev is_separator_text : List ℕ → Bool
is_separator_text text = is_mark_text text && list_all is_separator text

mark_is_cell : (text space : List ℕ) → is_separator_text text ≡ true → list_all is_blank space ≡ true → IsCell (mark_cell text space)
unfolding has_form is_alone
mark_is_cell text space e blank =
    let parts = and_parts (is_mark_text text) (list_all is_separator text) e in
    record { form = parts.0; alone = parts.1; space = blank }

word_is_cell : (text space : List ℕ) → (is_simple text && is_reserved text) ≡ true → list_all is_blank space ≡ true → IsCell (word_cell text space)
unfolding has_form is_alone
word_is_cell text space e blank = record { form = e; alone = refl; space = blank }

constant_may_stand : (text : List ℕ) → is_constant text ≡ true → MayStand (constant_cell text)
unfolding has_form is_parted is_alone
constant_may_stand text e = (record { form = e; alone = refl; space = refl }, refl, tt)

-- an operand's cell, where its name is one
abbrev pub IsOperand : Operand → Type 0
IsOperand Zero = Unit {0}
IsOperand One = Unit {0}
IsOperand (Named name) = IsTrue (is_name name)

operand_may_stand : (term : Operand) → IsOperand term → MayStand (operand_cell term)
unfolding is_constant
operand_may_stand Zero h = constant_may_stand (codes "1'b0") refl
operand_may_stand One h = constant_may_stand (codes "1'b1") refl
operand_may_stand (Named name) h = name_may_stand name h

mark_before : (text space : List ℕ) (next : List Cell) → is_separator_text text ≡ true → list_all is_blank space ≡ true → ArePrinted next → ArePrinted (mark_cell text space ∷ next)
unfolding is_parted
mark_before text space next e blank h = (mark_is_cell text space e blank, refl, h)

word_before : (text : List ℕ) (next : List Cell) → (is_simple text && is_reserved text) ≡ true → ArePrinted next → ArePrinted (word_cell text (codes " ") ∷ next)
unfolding is_parted
word_before text next e h = (word_is_cell text (codes " ") e refl, refl, h)

semicolon_stands : ArePrinted (semicolon ∷ [])
unfolding is_mark_text
semicolon_stands = mark_before (codes ";") (codes "\n") [] refl refl tt

line_end_stands : ArePrinted line_end
unfolding is_mark_text
line_end_stands = mark_before (codes ")") [] (semicolon ∷ []) refl refl semicolon_stands

-- lists with commas, before a mark
others_stand : {X : Type 0} (cell : X → Cell) (xs : List X) (rest : List Cell) → AllByRecursion (λ x. MayStand (cell x)) xs → is_mark_next rest ≡ true → ArePrinted rest → (is_mark_next (flat_map (λ x. comma ∷ cell x ∷ []) xs ++ rest) ≡ true) × ArePrinted (flat_map (λ x. comma ∷ cell x ∷ []) xs ++ rest)
unfolding is_mark_next is_mark_text
others_stand cell [] rest all mark h = (mark, h)
others_stand cell (x ∷ xs) rest all mark h =
    let later = others_stand cell xs rest all.1 mark h in (
      refl,
      mark_before (codes ",") (codes " ") (cell x ∷ (flat_map (λ y. comma ∷ cell y ∷ []) xs ++ rest)) refl refl
          (printed_before_mark (cell x ∷ []) (flat_map (λ y. comma ∷ cell y ∷ []) xs ++ rest) all.0 later.0 later.1),
    )

joined_stand : {X : Type 0} (cell : X → Cell) (xs : List X) (rest : List Cell) → AllByRecursion (λ x. MayStand (cell x)) xs → is_mark_next rest ≡ true → ArePrinted rest → ArePrinted (joined cell xs ++ rest)
joined_stand cell [] rest all mark h = h
joined_stand cell (x ∷ xs) rest all mark h =
    let later = others_stand cell xs rest all.1 mark h in
    printed_before_mark (cell x ∷ []) (flat_map (λ y. comma ∷ cell y ∷ []) xs ++ rest) all.0 later.0 later.1

-- what ends closed, with anything before it
closed_behind : (first : List Cell) (cell : Cell) (second : List Cell) → ends_closed (cell ∷ second) ≡ true → ends_closed (first ++ cell ∷ second) ≡ true
unfolding ends_closed
closed_behind [] cell second e = e
closed_behind (a ∷ []) cell second e = e
closed_behind (a ∷ b ∷ first) cell second e = closed_behind (b ∷ first) cell second e

semicolon_closes : ends_closed (semicolon ∷ []) ≡ true
unfolding ends_closed is_closed
semicolon_closes = refl

line_end_closes : (first : List Cell) → ends_closed (first ++ line_end) ≡ true
line_end_closes first = closed_behind first (mark_cell (codes ")") []) (semicolon ∷ []) (closed_behind (mark_cell (codes ")") [] ∷ []) semicolon [] semicolon_closes)

-- the lines are closed
word_line_closed : (word name : List ℕ) → (is_simple word && is_reserved word) ≡ true → is_name name ≡ true → AreClosed (word_line word name)
unfolding is_mark_next
word_line_closed word name reserved_word e = record {
  printed = word_before word (name_cell [] name ∷ semicolon ∷ []) reserved_word
      (printed_before_mark (name_cell [] name ∷ []) (semicolon ∷ []) (name_may_stand name e) refl semicolon_stands);
  closed = closed_behind (word_cell word (codes " ") ∷ name_cell [] name ∷ []) semicolon [] semicolon_closes;
}

is_word : List ℕ → Bool
is_word text = is_simple text && is_reserved text

kind_is_word : (kind : Kind) → is_word (kind_word kind) ≡ true
unfolding is_word is_simple is_reserved reserved
kind_is_word And = refl
kind_is_word Nand = refl
kind_is_word Or = refl
kind_is_word Nor = refl
kind_is_word Xor = refl
kind_is_word Xnor = refl
kind_is_word Buf = refl
kind_is_word Not = refl

direction_is_word : (is_input : Bool) → is_word (cond is_input (codes "input") (codes "output")) ≡ true
unfolding is_word is_simple is_reserved reserved
direction_is_word true = refl
direction_is_word false = refl

module_is_word : is_word (codes "module") ≡ true
unfolding is_word is_simple is_reserved reserved
module_is_word = refl

wire_is_word : is_word (codes "wire") ≡ true
unfolding is_word is_simple is_reserved reserved
wire_is_word = refl

end_is_word : is_word (codes "endmodule") ≡ true
unfolding is_word is_simple is_reserved reserved
end_is_word = refl

port_closed : (is_input : List ℕ → Bool) (name : List ℕ) → is_name name ≡ true → AreClosed (port_cells is_input name)
unfolding is_word
port_closed is_input name e = word_line_closed (cond (is_input name) (codes "input") (codes "output")) name (direction_is_word (is_input name)) e

wire_closed : (name : List ℕ) → is_name name ≡ true → AreClosed (wire_cells name)
unfolding is_word
wire_closed name e = word_line_closed (codes "wire") name wire_is_word e

gate_closed : (g : NamedGate) → AllByRecursion IsOperand (Named g.out ∷ g.terms) → AreClosed (gate_cells g)
unfolding is_word is_mark_text is_mark_next
gate_closed g all =
    let terms = Named g.out ∷ g.terms in
    record {
      printed = word_before (kind_word g.kind) (mark_cell (codes "(") [] ∷ (joined operand_cell terms ++ line_end)) (kind_is_word g.kind)
          (mark_before (codes "(") [] (joined operand_cell terms ++ line_end) refl refl
          (joined_stand operand_cell terms line_end (all_stand terms all) refl line_end_stands));
      closed = line_end_closes (word_cell (kind_word g.kind) (codes " ") ∷ mark_cell (codes "(") [] ∷ joined operand_cell terms);
    }
  where
    all_stand : (terms : List Operand) → AllByRecursion IsOperand terms → AllByRecursion (λ term. MayStand (operand_cell term)) terms
    all_stand [] h = tt
    all_stand (term ∷ terms) h = (operand_may_stand term h.0, all_stand terms h.1)

spaced_parts : (plain : Bool) (name : List ℕ) (next : List Cell) → is_parted (name_cell_by plain name (codes " ")).kind (name_cell_by plain name (codes " ")).space next ≡ true
unfolding is_parted
spaced_parts true name next = refl
spaced_parts false name next = refl

header_closed : (n : Circuit) → IsNamed n → AreClosed (header_cells n)
unfolding is_word is_mark_text is_mark_next
header_closed n named =
    let ports = joined (name_cell []) n.ports ++ line_end in
    let brackets = mark_before (codes "(") [] ports refl refl
    (joined_stand (name_cell []) n.ports line_end (each (λ name. MayStand (name_cell [] name)) n.ports (λ name c. name_may_stand name (named.ports name c))) refl line_end_stands) in
    record {
      printed = word_before (codes "module") (name_cell (codes " ") n.title ∷ mark_cell (codes "(") [] ∷ ports) module_is_word
          (name_is_cell (codes " ") n.title refl named.title, spaced_parts (is_plain n.title) n.title (mark_cell (codes "(") [] ∷ ports), brackets);
      closed = line_end_closes (word_cell (codes "module") (codes " ") ∷ name_cell (codes " ") n.title ∷ mark_cell (codes "(") [] ∷ joined (name_cell []) n.ports);
    }

end_stands : ArePrinted end_cells
unfolding is_parted is_word
end_stands = (word_is_cell (codes "endmodule") (codes "\n") end_is_word refl, refl, tt)

end_closed : AreClosed end_cells
unfolding ends_closed is_closed
end_closed = record { printed = end_stands; closed = refl }

-- all names of a checked netlist's gates are names
net_named : (n : Circuit) → IsNamed n → (name : List ℕ) → Contains (names n) name → IsTrue (is_name name)
net_named n named name c =
    elim (Contains-append_cases n.ports n.wires name c) [
      | inl port ↦ named.ports name port
      | inr wire ↦ named.wires name wire
    ]

operand_named : (n : Circuit) → IsChecked n → IsNamed n → (g : NamedGate) → Contains n.gates g → (term : Operand) → Contains g.terms term → IsOperand term
operand_named n checked named g member Zero c = tt
operand_named n checked named g member One c = tt
operand_named n checked named g member (Named name) c = net_named n named name (checked.read_nets g member name c)

gate_named : (n : Circuit) → IsChecked n → IsNamed n → (g : NamedGate) → Contains n.gates g → AllByRecursion IsOperand (Named g.out ∷ g.terms)
gate_named n checked named g member =
    (net_named n named g.out (checked.driven_nets g member), each IsOperand g.terms (operand_named n checked named g member))

-- The cells of a checked netlist may be printed.
pub cells_stand : (n : Circuit) → IsChecked n → IsNamed n → ArePrinted (cells_of n)
cells_stand n checked named =
    let ports = flat_map (port_cells (has n.inputs)) n.ports in
    let wires = flat_map wire_cells n.wires in
    let gates = flat_map gate_cells n.gates in
    let ports_closed = AreClosed-flat_map (port_cells (has n.inputs)) n.ports (each (λ name. AreClosed (port_cells (has n.inputs) name)) n.ports (λ name c. port_closed (has n.inputs) name (named.ports name c))) in
    let wires_closed = AreClosed-flat_map wire_cells n.wires (each (λ name. AreClosed (wire_cells name)) n.wires (λ name c. wire_closed name (named.wires name c))) in
    let gates_closed = AreClosed-flat_map gate_cells n.gates (each (λ g. AreClosed (gate_cells g)) n.gates (λ g c. gate_closed g (gate_named n checked named g c))) in
    (AreClosed-append (header_cells n) (ports ++ (wires ++ (gates ++ end_cells))) (header_closed n named)
    (AreClosed-append ports (wires ++ (gates ++ end_cells)) ports_closed
    (AreClosed-append wires (gates ++ end_cells) wires_closed (AreClosed-append gates end_cells gates_closed end_closed)))).printed
