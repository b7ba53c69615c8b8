-- The text of a netlist is a text of it.
use Rattle.std.proofs.Common.{◌≡◌, ℕ, ◌≤◌, Bool, true, false, ◌==◌, List, [], ◌∷◌, ◌++◌, length, map, None, refl, sym, ◌∙◌, ap, subst, arith, eq-eqb, cond, inl, inr}
use Rattle.std.specs.Prelude.{IsTrue, Some, not}
use Rattle.std.specs.List.{Contains, list_all}
use Rattle.std.proofs.lemmas.Bool.{and_from, and_parts}
use Rattle.std.proofs.lemmas.List.{length-map}
use Rattle.std.proofs.lemmas.List.Folds.{list_all-append}
use Rattle.eco_lists.proofs.Members.{Contains_cases, Contains_first, Contains_later, Contains_none}
use Rattle.eco_meaning.specs.declared.kind.Kind.{Kind}
use Rattle.eco_meaning.specs.declared.kind.Kind.TheVariants.{And, Nand, Or, Nor, Xor, Xnor, Buf, Not}
use Rattle.eco_meaning.specs.declared.name.Operand.{Operand}
use Rattle.eco_meaning.specs.Gates.{FitsKind}
use Rattle.eco_meaning.specs.Names.{has, is_name}
use Rattle.eco_meaning.specs.Circuit.{Circuit, NamedGate, IsTarget}
use Rattle.eco_netlist.specs.declared.draft.TargetRule.{TargetRule}
use Rattle.eco_netlist.specs.declared.draft.TargetRule.TheVariants.{Allowed, Never}
use Rattle.eco_netlist.specs.Draft.{made}
use Rattle.eco_netlist.specs.Refusals.{IsWellFormed}
use Rattle.eco_netlist.specs.Netlists.{IsChecked}
use Rattle.eco_tokens.specs.Tokens.{AreTokens}
use Rattle.eco_tokens.specs.Cells.{said_by, printed}
use Rattle.eco_tokens.proofs.Printed.{printed_tokens}
use Rattle.eco_vread.specs.Syntax.{Identifier, Statement}
use Rattle.eco_vread.specs.Grammar.{spelling, is_full, is_proper_instance, is_proper_statement, is_directed, is_proper_header, is_proper, IsText}
use Rattle.eco_vread.specs.Meaning.{declared_of}
use Rattle.eco_plain.specs.Plain.{IsGatesText}
use Rattle.eco_plain.proofs.Embedding.{gates_text_from}
use Rattle.eco_vwrite.specs.Written.{written}
use Rattle.eco_netlist.proofs.Plainly.{Allows}
use Rattle.eco_vwrite.proofs.WellFormed.{made_again, faultless, allowed_targets, no_targets}
use Rattle.eco_vwrite.proofs.Trees.{identifier, term_for, port_for, port_statement, wire_statement, gate_statement, instance_for, statements_for, file_for, declared_again}
use Rattle.eco_vwrite.proofs.Plainly.{plain_for, whole_again}
use Rattle.eco_vwrite.proofs.Cells.{cells_of}
use Rattle.eco_vwrite.proofs.Said.{cells_said}
use Rattle.eco_vwrite.proofs.Printing.{IsNamed, cells_printed, cells_stand}

-- gates have as many outputs and inputs as the grammar asks
some_input : (terms : List Operand) → 1 ≤ length terms → is_full (map term_for terms) ≡ true
some_input [] h = absurd (omega arith)
some_input (term ∷ terms) h = refl

one_input : (terms : List Operand) → length terms ≡ 1 → (length (map term_for terms) == 1) ≡ true
one_input terms h = eq-eqb (length (map term_for terms)) 1 (rw length-map h)

proper_by : (kind : Kind) (out : Identifier) (terms : List Operand) → FitsKind kind (length terms) → is_proper_instance kind (record { label = None; outputs = out ∷ []; inputs = map term_for terms }) ≡ true
proper_by And out terms h = some_input terms h
proper_by Nand out terms h = some_input terms h
proper_by Or out terms h = some_input terms h
proper_by Nor out terms h = some_input terms h
proper_by Xor out terms h = some_input terms h
proper_by Xnor out terms h = some_input terms h
proper_by Buf out terms h = one_input terms h
proper_by Not out terms h = one_input terms h

gate_proper : (g : NamedGate) → FitsKind g.kind (length g.terms) → is_proper_statement (gate_statement g) ≡ true
gate_proper g h = and_from (is_proper_instance g.kind (instance_for g)) true (proper_by g.kind (identifier g.out) g.terms h) refl

port_proper_by : (is_input : Bool) (name : List ℕ) → is_proper_statement (cond is_input (Statement.input false (identifier name ∷ [])) (Statement.output false (identifier name ∷ []))) ≡ true
port_proper_by true name = refl
port_proper_by false name = refl

all_pass : {X : Type 0} (statement : X → Statement) (xs : List X) → ((x : X) → Contains xs x → is_proper_statement (statement x) ≡ true) → list_all is_proper_statement (map statement xs) ≡ true
all_pass statement [] h = refl
all_pass statement (x ∷ xs) h =
    and_from (is_proper_statement (statement x)) (list_all is_proper_statement (map statement xs)) (h x (Contains_first x xs))
    (all_pass statement xs (λ y c. h y (Contains_later x y xs c)))

all_in_both : (first second : List Statement) → list_all is_proper_statement first ≡ true → list_all is_proper_statement second ≡ true → list_all is_proper_statement (first ++ second) ≡ true
all_in_both first second h g =
    list_all-append is_proper_statement first second ∙ and_from (list_all is_proper_statement first) (list_all is_proper_statement second) h g

-- no port of the header has a direction
no_directions : (list : List (List ℕ)) → list_all (λ p. not (is_directed p.direction)) (map port_for list) ≡ true
no_directions [] = refl
no_directions (name ∷ list) = no_directions list

header_proper : (list : List (List ℕ)) → is_proper_header (Some (map port_for list)) ≡ true
header_proper [] = refl
header_proper (name ∷ list) = no_directions list

tree_proper : (n : Circuit) → IsChecked n → is_proper (file_for n) ≡ true
tree_proper n checked =
    and_from (is_proper_header (file_for n).header) (list_all is_proper_statement (statements_for n)) (header_proper n.ports)
    (all_in_both (map (port_statement (has n.inputs)) n.ports) (map wire_statement n.wires ++ map gate_statement n.gates)
    (all_pass (port_statement (has n.inputs)) n.ports (λ name c. port_proper_by (has n.inputs name) name))
    (all_in_both (map wire_statement n.wires) (map gate_statement n.gates)
    (all_pass wire_statement n.wires (λ name c. refl))
    (all_pass gate_statement n.gates (λ g c. gate_proper g (checked.arities g c)))))

text_of_tree : (n : Circuit) → IsChecked n → IsNamed n → IsText (written n) (file_for n)
text_of_tree n checked named =
    let tokens : AreTokens (printed (cells_of n)) (map said_by (cells_of n)) = printed_tokens (cells_of n) (cells_stand n checked named) in
    record {
      tokens = subst (λ bytes. AreTokens bytes (spelling (file_for n))) (cells_printed n)
          (subst (λ told. AreTokens (printed (cells_of n)) told) (cells_said n) tokens);
      proper = tree_proper n checked;
    }

text_under : (rule : TargetRule) (n : Circuit) → IsChecked n → IsNamed n → Allows rule n → IsGatesText rule (written n) n
text_under rule n checked named allowed =
    let again = sym (declared_again n checked) in
    let same = sym (whole_again n) in
    gates_text_from rule (written n) n (plain_for n) (subst (λ file. IsText (written n) file) same (text_of_tree n checked named))
    (subst (λ file. IsWellFormed rule (declared_of file)) same (subst (λ d. IsWellFormed rule d) again (faultless rule n checked allowed)))
    (subst (λ file. n ≡ made rule (declared_of file)) same (subst (λ d. n ≡ made rule d) again (made_again rule n checked allowed)))

-- It is one in gates alone where targets are allowed,
pub read_where_allowed : (n : Circuit) → IsChecked n → IsNamed n → IsGatesText Allowed (written n) n
read_where_allowed n checked named = text_under Allowed n checked named (allowed_targets n)

-- and, of a netlist without targets, where they aren't.
pub read_without_targets : (n : Circuit) → IsChecked n → IsNamed n → ((name : List ℕ) → IsTarget n name → ⊥) → IsGatesText Never (written n) n
read_without_targets n checked named none = text_under Never n checked named (no_targets Never n none)

member_passes : (p : List ℕ → Bool) (xs : List (List ℕ)) (x : List ℕ) → list_all p xs ≡ true → Contains xs x → p x ≡ true
member_passes p [] x all c = absurd (Contains_none x c)
member_passes p (y ∷ ys) x all c =
    let parts = and_parts (p y) (list_all p ys) all in
    elim (Contains_cases y x ys c) [
      | inl same ↦ ap p (sym same) ∙ parts.0
      | inr later ↦ member_passes p ys x parts.1 later
    ]

-- The names that were written are names.
pub named_from : (n : Circuit) → IsTrue (is_name n.title) → IsTrue (list_all is_name n.ports) → IsTrue (list_all is_name n.wires) → IsNamed n
named_from n title ports wires = record {
  title = title;
  ports = λ name c. member_passes is_name n.ports name ports c;
  wires = λ name c. member_passes is_name n.wires name wires c;
}
