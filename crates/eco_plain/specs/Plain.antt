-- Texts of gates alone: structural Verilog without `assign`, and without directions in the header (IEEE 1364-2005, clause 7
-- and annex A). What a text means is shorter to tell for these.
use Rattle.std.specs.Prelude.{◌≡◌, ℕ, Bool, List, [], ◌∷◌, ◌++◌, map, codes, IsTrue, ◌&&◌}
use Rattle.std.specs.List.{flat_map, list_all}
use Rattle.eco_meaning.specs.declared.kind.Kind.{Kind}
use Rattle.eco_meaning.specs.Circuit.{Circuit, NamedGate}
use Rattle.eco_netlist.specs.declared.draft.TargetRule.{TargetRule}
use Rattle.eco_netlist.specs.Draft.{Declared, made}
use Rattle.eco_netlist.specs.Refusals.{IsWellFormed}
use Rattle.eco_tokens.specs.Said.{Said}
use Rattle.eco_tokens.specs.Tokens.{AreTokens}
use Rattle.eco_vread.specs.Syntax.{Identifier, Instance, name_of}
use Rattle.eco_vread.specs.Grammar.{word, mark, kind_word, spell_name, commas, spell_instance, is_full, is_proper_instance}
use Rattle.eco_vread.specs.Meaning.{instance_gates}
use Rattle.eco_vread.specs.Texts.{IsNetlistText}

-- a statement: names that are declared as inputs, as outputs or as wires, or gates of one kind
pub data Statement : Type 0 where
  inputs : List Identifier → Statement
  outputs : List Identifier → Statement
  wires : List Identifier → Statement
  gates : Kind → List Instance → Statement

-- a file: the module's name, the names of its ports, and its statements
pub record File : Type 0 where
  pub title : Identifier
  pub ports : List Identifier
  pub statements : List Statement

-- x { , x } ;
abbrev pub spell_list : {X : Type 0} → (X → List Said) → List X → List Said
spell_list spell xs = commas spell xs ++ mark (codes ";") ∷ []

-- statement ::= input names ; | output names ; | wire names ; | kind instances ;
abbrev pub spell_statement : Statement → List Said
spell_statement (inputs names) = word (codes "input") ∷ spell_list spell_name names
spell_statement (outputs names) = word (codes "output") ∷ spell_list spell_name names
spell_statement (wires names) = word (codes "wire") ∷ spell_list spell_name names
spell_statement (gates kind instances) = word (kind_word kind) ∷ spell_list spell_instance instances

-- file ::= module identifier ( [ names ] ) ; { statement } endmodule
abbrev pub spelling : File → List Said
spelling f =
    word (codes "module") ∷ (spell_name f.title ++ (mark (codes "(") ∷ (commas spell_name f.ports ++ (mark (codes ")") ∷ mark (codes ";") ∷ (flat_map spell_statement f.statements ++ word (codes "endmodule") ∷ [])))))

-- each list has a member, and each instance has as many outputs and inputs as its kind
abbrev pub is_proper : Statement → Bool
is_proper (inputs names) = is_full names
is_proper (outputs names) = is_full names
is_proper (wires names) = is_full names
is_proper (gates kind instances) = is_full instances && list_all (is_proper_instance kind) instances

-- with what a statement declares behind what is declared
abbrev pub with_statement : Statement → Declared → Declared
with_statement (inputs names) d = record d { inputs = map name_of names ++ d.inputs }
with_statement (outputs names) d = record d { outputs = map name_of names ++ d.outputs }
with_statement (wires names) d = record d { wires = map name_of names ++ d.wires }
with_statement (gates kind instances) d = record d { gates = flat_map (instance_gates kind) instances ++ d.gates }

-- what these statements declare, in their order, in a module of this name with these ports
abbrev pub with_statements : List ℕ → List (List ℕ) → List Statement → Declared
with_statements title ports [] = record { title = title; header = ports; inputs = []; outputs = []; wires = []; gates = [] }
with_statements title ports (s ∷ statements) = with_statement s (with_statements title ports statements)

-- what a file declares
abbrev pub declared_of : File → Declared
declared_of f = with_statements (name_of f.title) (map name_of f.ports) f.statements

-- the bytes are a text of this netlist in gates alone, under this rule: the tokens of a file, with white space and comments
-- between, whose declarations have no error and stand for the netlist
pub record IsGatesText (rule : TargetRule) (bytes : List ℕ) (n : Circuit) : Type 0 where
  pub file : File
  pub tokens : AreTokens bytes (spelling file)
  pub proper : IsTrue (list_all is_proper file.statements)
  pub faultless : IsWellFormed rule (declared_of file)
  pub value : n ≡ made rule (declared_of file)

-- each text in gates alone is a text of its netlist
abbrev pub GatesTextIsText : Type 0
GatesTextIsText =
    (rule : TargetRule) (bytes : List ℕ) (n : Circuit) → IsGatesText rule bytes n → IsNetlistText rule bytes n
