-- What a file declares.
use Rattle.std.specs.Prelude.{ℕ, ◌+◌, ◌-◌, ◌/◌, ◌%◌, Bool, not, ◌&&◌, List, [], ◌∷◌, ◌++◌, length, map, take, drop, Option, Some, None, position, nat_eq, ◌==◌, codes, if◌then◌else◌}
use Rattle.std.specs.List.{range_with_len, slice_index_or, list_any}
use Rattle.eco_meaning.specs.declared.kind.Kind.TheVariants.{And, Buf, Not}
use Rattle.eco_meaning.specs.declared.name.Operand.{Operand}
use Rattle.eco_meaning.specs.declared.name.Operand.TheVariants.{Zero, One, Named}
use Rattle.eco_meaning.specs.Circuit.{NamedGate}
use Rattle.eco_netlist.specs.Draft.{Declared}
use Rattle.eco_text.specs.Prefix.{fresh_prefix_of, numbered}
use Rattle.eco_aiger.specs.declared.tree.AndLine.{AndLine}
use Rattle.eco_aiger.specs.Syntax.{Symbol, File}
use Rattle.eco_aiger.specs.Grammar.{port_word}

-- the name that a symbol gives: its text without one backslash at its front, where a byte is left behind it
abbrev pub named_by : List ℕ → List ℕ
named_by [] = []
named_by (byte ∷ []) = byte ∷ []
named_by (byte ∷ next ∷ more) = if byte == 92 then next ∷ more else byte ∷ next ∷ more

-- the text of a port's symbol, if it has one
abbrev pub text_of : List Symbol → ℕ → Option (List ℕ)
text_of [] port = None
text_of (s ∷ symbols) port = if port == s.port then Some s.text else text_of symbols port

abbrev pub named_or : Option (List ℕ) → List ℕ → List ℕ
named_or None other = other
named_or (Some text) other = named_by text

-- the name of a port: its symbol's, or else the word for it
abbrev pub port_name : File → ℕ → List ℕ
port_name f port = named_or (text_of f.symbols port) (port_word (length f.inputs) port)

-- the names of the ports: the inputs, then the outputs
abbrev pub port_names : File → List (List ℕ)
port_names f = map (port_name f) (range_with_len 0 (length f.inputs + length f.outputs))

-- what the nets are named by: the prefix of the wires, the literals of the inputs, and the names of the ports
pub record Naming : Type 0 where
  pub prefix : List ℕ
  pub inputs : List ℕ
  pub ports : List (List ℕ)

-- the prefix is the shortest of `aig_`, `aig__` and so on that begins no port's name
abbrev pub naming_of : File → Naming
naming_of f = record { prefix = fresh_prefix_of (codes "aig") (port_names f); inputs = f.inputs; ports = port_names f }

-- the wire of a variable, and of its complement, by a literal of the variable
abbrev pub wire_name : Naming → ℕ → List ℕ
wire_name n literal = numbered n.prefix (literal / 2)

abbrev pub complement_name : Naming → ℕ → List ℕ
complement_name n literal = wire_name n literal ++ codes "n"

-- the net of a plain literal: the input's port, or else the wire
abbrev pub net_at : Naming → ℕ → Option ℕ → List ℕ
net_at n literal None = wire_name n literal
net_at n literal (Some place) = slice_index_or n.ports place []

abbrev pub net_name : Naming → ℕ → List ℕ
net_name n literal = net_at n literal (position (nat_eq literal) n.inputs)

-- whether a literal is the complement of a variable
abbrev pub is_complement : ℕ → Bool
is_complement literal = literal % 2 == 1 && not (literal == 1)

-- what a literal of a variable is read from: a net, or the wire of a complement
abbrev pub read_name : Naming → ℕ → List ℕ
read_name n literal = if is_complement literal then complement_name n literal else net_name n literal

-- what a literal is read from: a constant, or the net of a variable or of its complement
abbrev pub operand_of : Naming → ℕ → Operand
operand_of n literal = if literal == 0 then Zero else (if literal == 1 then One else Named (read_name n literal))

-- the gate of a complement
abbrev pub complement_gate : Naming → ℕ → NamedGate
complement_gate n literal = record {
  kind = Not;
  out = complement_name n literal;
  terms = operand_of n (literal - 1) ∷ [];
}

-- the gate of a complement, if a literal is one and none of those that were seen
abbrev pub complement_gates : Naming → List ℕ → ℕ → List NamedGate
complement_gates n seen literal =
    if is_complement literal && not (list_any (nat_eq literal) seen) then complement_gate n literal ∷ [] else []

abbrev pub and_gate : Naming → AndLine → NamedGate
and_gate n a = record {
  kind = And;
  out = wire_name n a.left;
  terms = operand_of n a.first ∷ operand_of n a.second ∷ [];
}

-- the literals that were seen, and one more
abbrev pub with_literal : List ℕ → ℕ → List ℕ
with_literal seen literal = if list_any (nat_eq literal) seen then seen else seen ++ literal ∷ []

-- the gates of an and-line: of the complements that its right side reads first, then its own
abbrev pub line_gates : Naming → List ℕ → AndLine → List NamedGate
line_gates n seen a =
    complement_gates n seen a.first ++ (complement_gates n (with_literal seen a.first) a.second ++ and_gate n a ∷ [])

-- the literals that were seen behind an and-line
abbrev pub line_seen : List ℕ → AndLine → List ℕ
line_seen seen a = with_literal (with_literal seen a.first) a.second

-- the gates of and-lines in order
abbrev pub and_gates : Naming → List ℕ → List AndLine → List NamedGate
and_gates n seen [] = []
and_gates n seen (a ∷ ands) = line_gates n seen a ++ and_gates n (line_seen seen a) ands

-- the gate of an output: the complement of a variable's net, or a copy of a net or a constant
abbrev pub output_gate : Naming → List ℕ → ℕ → NamedGate
output_gate n name literal =
    if is_complement literal
    then record { kind = Not; out = name; terms = operand_of n (literal - 1) ∷ [] }
    else record { kind = Buf; out = name; terms = operand_of n literal ∷ [] }

-- the gates of outputs, each with its name
abbrev pub output_gates : Naming → List (List ℕ) → List ℕ → List NamedGate
output_gates n [] literals = []
output_gates n (name ∷ names) [] = []
output_gates n (name ∷ names) (literal ∷ literals) = output_gate n name literal ∷ output_gates n names literals

-- the declarations of a file, where its nets are named so
abbrev pub declared_by : Naming → File → Declared
declared_by n f = record {
  title = codes "aiger";
  header = n.ports;
  inputs = take (length f.inputs) n.ports;
  outputs = drop (length f.inputs) n.ports;
  wires = [];
  gates = and_gates n [] f.ands ++ output_gates n (drop (length f.inputs) n.ports) f.outputs;
}

-- the declarations of a file
abbrev pub declared_of : File → Declared
declared_of f = declared_by (naming_of f) f
