-- What a text declares, and the netlist that these declarations stand for.
use Rattle.std.specs.Prelude.{ℕ, Bool, true, false, not, ◌&&◌, ◌||◌, List, [], ◌∷◌, ◌++◌, length, drop, filter, fold, All, if◌then◌else◌}
use Rattle.std.specs.List.{list_any, flat_map}
use Rattle.std.specs.Str.{bytes_eq}
use Rattle.eco_meaning.specs.declared.name.Operand.{Operand}
use Rattle.eco_meaning.specs.declared.name.Operand.TheVariants.{Zero, One, Named}
use Rattle.eco_meaning.specs.Gates.{FitsKind}
use Rattle.eco_meaning.specs.Names.{has, is_target_text}
use Rattle.eco_meaning.specs.Circuit.{Circuit, NamedGate}
use Rattle.eco_netlist.specs.declared.draft.TargetRule.{TargetRule}
use Rattle.eco_netlist.specs.declared.draft.TargetRule.TheVariants.{Allowed, Never}

-- a module as it is declared, each list in the order of the text: its name, the names in its header, those
-- declared as input, as output and as wire, and its gates
pub record Declared : Type 0 where
  pub title : List ℕ
  pub header : List (List ℕ)
  pub inputs : List (List ℕ)
  pub outputs : List (List ℕ)
  pub wires : List (List ℕ)
  pub gates : List NamedGate

-- each gate has a number of inputs that its kind allows
abbrev pub FitKinds : List NamedGate → Type 0
FitKinds gates = All (λ g. FitsKind g.kind (length g.terms)) gates

-- whether a gate's input reads the net
abbrev pub reads_name : List ℕ → Operand → Bool
reads_name name Zero = false
reads_name name One = false
reads_name name (Named other) = bytes_eq name other

-- whether a gate drives the net, reads it, or one of these
abbrev pub is_driven : Declared → List ℕ → Bool
is_driven d name = list_any (λ g. bytes_eq name g.out) d.gates

abbrev pub is_read : Declared → List ℕ → Bool
is_read d name = list_any (λ g. list_any (reads_name name) g.terms) d.gates

abbrev pub is_mentioned : Declared → List ℕ → Bool
is_mentioned d name = is_driven d name || is_read d name

-- whether the name is declared anywhere
abbrev pub is_declared : Declared → List ℕ → Bool
is_declared d name = has d.header name || has d.inputs name || has d.outputs name || has d.wires name

-- whether the rule allows targets at all
abbrev pub allows : TargetRule → Bool
allows Allowed = true
allows Never = false

-- a target: declared or mentioned, of a target's form, and neither an input nor driven
abbrev pub is_target : TargetRule → Declared → List ℕ → Bool
is_target rule d name =
    allows rule && is_target_text name && (is_declared d name || is_mentioned d name)
    && not (has d.inputs name) && not (is_driven d name)

-- the names that a gate mentions: its output, then what it reads
abbrev pub operand_names : Operand → List (List ℕ)
operand_names Zero = []
operand_names One = []
operand_names (Named name) = name ∷ []

abbrev pub gate_names : NamedGate → List (List ℕ)
gate_names g = g.out ∷ flat_map operand_names g.terms

-- the list with the name behind it, where it doesn't have it yet
abbrev pub with_name : List (List ℕ) → List ℕ → List (List ℕ)
with_name list name = if has list name then list else list ++ name ∷ []

-- the nets in order: the ports; the declared wires that are mentioned or targets; the others by their first mention
abbrev pub nets_of : TargetRule → Declared → List (List ℕ)
nets_of rule d =
    fold with_name d.header
    (filter (λ wire. is_mentioned d wire || is_target rule d wire) d.wires ++ flat_map gate_names d.gates)

-- the netlist of these declarations: the inputs and outputs in the order of the ports
abbrev pub made : TargetRule → Declared → Circuit
made rule d = record {
  title = d.title;
  ports = d.header;
  inputs = filter (has d.inputs) d.header;
  outputs = filter (has d.outputs) d.header;
  wires = drop (length d.header) (nets_of rule d);
  gates = d.gates;
}
