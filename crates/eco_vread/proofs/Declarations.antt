-- What a tree declares, part by part.
use Rattle.std.proofs.Common.{◌≡◌, ℕ, Bool, true, false, Some, List, map, refl, ap, sym, ◌∙◌}
use Rattle.std.specs.List.{flat_map, list_all}
use Rattle.std.proofs.lemmas.List.{append-nil}
use Rattle.std.proofs.lemmas.List.Folds.{flat_map-map, list_all-map}
use Rattle.eco_meaning.specs.declared.kind.Kind.{Kind}
use Rattle.eco_lists.proofs.Members.{map-map}
use Rattle.eco_netlist.specs.Draft.{Declared}
use Rattle.eco_vread.specs.declared.declare.Section.TheVariants.{Header, Inputs, Outputs, Wires}
use Rattle.eco_vread.specs.declared.tree.Direction.TheVariants.{In}
use Rattle.eco_vread.specs.declared.tree.Ident.{Ident}
use Rattle.eco_vread.specs.declared.tree.Port.{Port as HeaderPort}
use Rattle.eco_vread.specs.declared.tree.GateInstance.{GateInstance}
use Rattle.std.specs.Global.{Vec}
use Rattle.eco_lists.proofs.Tests.{both}
use Rattle.eco_vread.specs.declared.tree.Item.{Item}
use Rattle.eco_vread.specs.declared.tree.Item.TheVariants.{Gates}
use Rattle.eco_vread.specs.Syntax.{name_of}
use Rattle.eco_vread.specs.Syntax.Statement.{input, output, wire, gates}
use Rattle.eco_vread.specs.Grammar.{is_full, is_proper_statement, is_proper_instance}
use Rattle.eco_vread.specs.Meaning.{operand_of, instance_gates, has_directions}
use Rattle.eco_vread.specs.Views.{identifier_of, term_of}
use Rattle.eco_vread.specs.Trees.{instance_of, statement_of, port_of}
use Rattle.eco_vread.specs.Declaring.{with_names, with_gates, with_directions, with_header, with_statement, gates_of}

-- the names of a list of identifiers
pub names_same : (names : List Ident) → map (λ i. name_of (identifier_of i)) names ≡ map name_of (map identifier_of names)
names_same names = sym (map-map identifier_of name_of names)

-- the gates of an instance
pub gates_same : (kind : Kind) (i : GateInstance) → gates_of kind i.outputs.items i.inputs.items ≡ instance_gates kind (instance_of i)
gates_same kind i =
    ap (λ t. map (λ out. record { kind = kind; out = name_of (identifier_of out); terms = t }) i.outputs.items) (sym (map-map term_of operand_of i.inputs.items))
    ∙ sym (map-map identifier_of (λ out. record { kind = kind; out = name_of out; terms = map operand_of (map term_of i.inputs.items) }) i.outputs.items)

-- what the statements declare
pub input_declares : (d : Declared) (prefix : List ℕ) (before : ℕ) (also : Bool) (names : List Ident) → with_names Inputs d (map (λ i. name_of (identifier_of i)) names) ≡ with_statement d prefix before (input also (map identifier_of names))
input_declares d prefix before also names = simp (append-nil, names_same)

pub output_declares : (d : Declared) (prefix : List ℕ) (before : ℕ) (also : Bool) (names : List Ident) → with_names Outputs d (map (λ i. name_of (identifier_of i)) names) ≡ with_statement d prefix before (output also (map identifier_of names))
output_declares d prefix before also names = simp (append-nil, names_same)

pub wire_declares : (d : Declared) (prefix : List ℕ) (before : ℕ) (names : List Ident) → with_names Wires d (map (λ i. name_of (identifier_of i)) names) ≡ with_statement d prefix before (wire (map identifier_of names))
wire_declares d prefix before names = simp (append-nil, names_same)

pub gates_declare : (d : Declared) (prefix : List ℕ) (before : ℕ) (kind : Kind) (list : List GateInstance) → with_gates d (flat_map (λ i. instance_gates kind (instance_of i)) list) ≡ with_statement d prefix before (gates kind (map instance_of list))
gates_declare d prefix before kind list = simp (append-nil, flat_map-map)

-- the header's names, and the directions where it has some
header_names_same : (ports : List HeaderPort) → map (λ p. name_of (identifier_of p.name)) ports ≡ map (λ p. name_of p.name) (map port_of ports)
header_names_same ports = sym (map-map port_of (λ p. name_of p.name) ports)

pub directed_header : (d : Declared) (ports : List HeaderPort) → has_directions (map port_of ports) ≡ true → with_directions (with_names Header d (map (λ p. name_of (identifier_of p.name)) ports)) In (map port_of ports) ≡ with_header d (Some (map port_of ports))
directed_header d ports h = rw (h, header_names_same ports) refl

pub plain_header : (d : Declared) (ports : List HeaderPort) → has_directions (map port_of ports) ≡ false → with_names Header d (map (λ p. name_of (identifier_of p.name)) ports) ≡ with_header d (Some (map port_of ports))
plain_header d ports h = rw (h, header_names_same ports) (simp append-nil)

-- each instance is as its kind needs it where the statement is proper
pub gates_proper : (item : Item) (kind : Kind) (instances : Vec GateInstance) (list : List GateInstance) → item ≡ Gates kind instances → list ≡ instances.items → is_proper_statement (statement_of item) ≡ true → list_all (λ i. is_proper_instance kind (instance_of i)) list ≡ true
gates_proper item kind instances list e f h =
    let g : is_proper_statement (gates kind (map instance_of instances.items)) ≡ true = ap (λ i. is_proper_statement (statement_of i)) (sym e) ∙ h in
    ap (list_all (λ i. is_proper_instance kind (instance_of i))) f
    ∙ sym (list_all-map (is_proper_instance kind) instance_of instances.items)
    ∙ (both (is_full (map instance_of instances.items)) (list_all (is_proper_instance kind) (map instance_of instances.items)) g).1

pub statements_proper : (items list : List Item) → list ≡ items → list_all is_proper_statement (map statement_of items) ≡ true → list_all (λ i. is_proper_statement (statement_of i)) list ≡ true
statements_proper items list e h =
    ap (list_all (λ i. is_proper_statement (statement_of i))) e ∙ sym (list_all-map is_proper_statement statement_of items) ∙ h
