-- A file of gates alone as a file of the whole grammar: it has the same tokens, and declares the same.
use Rattle.std.proofs.Common.{◌≡◌, ℕ, zero, suc, ◌+◌, Bool, true, false, not, ◌&&◌, List, [], ◌∷◌, ◌++◌, map, Some, None, codes, refl, sym, ◌∙◌, ap, subst, append_assoc}
use Rattle.std.specs.Prelude.{IsTrue}
use Rattle.std.specs.List.{flat_map, join_by, list_all}
use Rattle.eco_meaning.specs.Circuit.{Circuit}
use Rattle.eco_netlist.specs.declared.draft.TargetRule.{TargetRule}
use Rattle.eco_netlist.specs.Draft.{Declared, made}
use Rattle.eco_netlist.specs.Refusals.{IsWellFormed}
use Rattle.eco_tokens.specs.Said.{Said}
use Rattle.eco_tokens.specs.Tokens.{AreTokens}
use Rattle.eco_vread.specs.Syntax.{Identifier, Instance, Port, name_of}
use Rattle.eco_vread.specs.Syntax as whole
use Rattle.eco_vread.specs.Grammar.{mark, commas, spell_name, spell_port, is_proper_statement, is_proper_header, is_directed, IsText}
use Rattle.eco_vread.specs.Grammar as grammar
use Rattle.eco_vread.specs.Meaning.{declared_inputs, declared_outputs, declared_wires, numbered_nets, statements_gates, header_names, header_that, is_in, is_out, own_prefix}
use Rattle.eco_vread.specs.Meaning as meaning
use Rattle.eco_vread.specs.Texts.{IsNetlistText}
use Rattle.eco_plain.specs.Plain.{Statement, File, spell_statement, spelling, is_proper, with_statement, with_statements, declared_of, IsGatesText, GatesTextIsText}
use Rattle.eco_plain.specs.Plain.Statement.{inputs, outputs, wires, gates}

-- a statement, a port and a file in the whole grammar
abbrev pub whole_statement : Statement → whole.Statement
whole_statement (inputs names) = whole.Statement.input false names
whole_statement (outputs names) = whole.Statement.output false names
whole_statement (wires names) = whole.Statement.wire names
whole_statement (gates kind instances) = whole.Statement.gates kind instances

abbrev pub whole_port : Identifier → Port
whole_port name = record { direction = None; name = name }

abbrev pub whole_file : File → whole.File
whole_file f = record {
  title = f.title;
  header = Some (map whole_port f.ports);
  statements = map whole_statement f.statements;
}

-- ---- its tokens

behind_commas : (names : List Identifier) → flat_map (λ p. mark (codes ",") ∷ spell_port p) (map whole_port names) ≡ flat_map (λ i. mark (codes ",") ∷ spell_name i) names
behind_commas [] = refl
behind_commas (name ∷ names) = ap (λ rest. mark (codes ",") ∷ (spell_name name ++ rest)) (behind_commas names)

ports_spelled : (names : List Identifier) → commas spell_port (map whole_port names) ≡ commas spell_name names
ports_spelled [] = refl
ports_spelled (name ∷ names) = ap (λ rest. spell_name name ++ rest) (behind_commas names)

statement_spelled : (s : Statement) → grammar.spell_statement (whole_statement s) ≡ spell_statement s
statement_spelled (inputs names) = refl
statement_spelled (outputs names) = refl
statement_spelled (wires names) = refl
statement_spelled (gates kind instances) = refl

statements_spelled : (list : List Statement) → flat_map grammar.spell_statement (map whole_statement list) ≡ flat_map spell_statement list
statements_spelled [] = refl
statements_spelled (s ∷ list) =
    ap (λ here. here ++ flat_map grammar.spell_statement (map whole_statement list)) (statement_spelled s)
    ∙ ap (λ rest. spell_statement s ++ rest) (statements_spelled list)

spelled : (f : File) → grammar.spelling (whole_file f) ≡ spelling f
spelled f =
    let front : List Said → List Said = λ rest. grammar.word (codes "module") ∷ (spell_name f.title ++ (mark (codes "(") ∷ rest)) in
    let last : List Said = flat_map grammar.spell_statement (map whole_statement f.statements) ++ grammar.word (codes "endmodule") ∷ [] in
    ap (λ ports. front ((ports ++ mark (codes ")") ∷ []) ++ (mark (codes ";") ∷ last))) (ports_spelled f.ports)
    ∙ ap front (append_assoc (commas spell_name f.ports) (mark (codes ")") ∷ []) (mark (codes ";") ∷ last))
    ∙ ap (λ list. front (commas spell_name f.ports ++ (mark (codes ")") ∷ mark (codes ";") ∷ (list ++ grammar.word (codes "endmodule") ∷ [])))) (statements_spelled f.statements)

-- ---- its form

undirected : (names : List Identifier) → list_all (λ p. not (is_directed p.direction)) (map whole_port names) ≡ true
undirected [] = refl
undirected (name ∷ names) = undirected names

header_proper : (names : List Identifier) → is_proper_header (Some (map whole_port names)) ≡ true
header_proper [] = refl
header_proper (name ∷ names) = undirected names

statement_proper : (s : Statement) → is_proper_statement (whole_statement s) ≡ is_proper s
statement_proper (inputs names) = refl
statement_proper (outputs names) = refl
statement_proper (wires names) = refl
statement_proper (gates kind instances) = refl

statements_proper : (list : List Statement) → list_all is_proper_statement (map whole_statement list) ≡ list_all is_proper list
statements_proper [] = refl
statements_proper (s ∷ list) =
    ap (λ here. here && list_all is_proper_statement (map whole_statement list)) (statement_proper s)
    ∙ ap (λ rest. is_proper s && rest) (statements_proper list)

proper_same : (f : File) → grammar.is_proper (whole_file f) ≡ list_all is_proper f.statements
proper_same f =
    ap (λ header. header && list_all is_proper_statement (map whole_statement f.statements)) (header_proper f.ports)
    ∙ statements_proper f.statements

-- ---- what it declares

ports_named : (names : List Identifier) → header_names (Some (map whole_port names)) ≡ map name_of names
ports_named [] = refl
ports_named (name ∷ names) = ap (λ rest. name_of name ∷ rest) (ports_named names)

no_inputs : (names : List Identifier) → header_that is_in (Some (map whole_port names)) ≡ []
no_inputs [] = refl
no_inputs (name ∷ names) = refl

no_outputs : (names : List Identifier) → header_that is_out (Some (map whole_port names)) ≡ []
no_outputs [] = refl
no_outputs (name ∷ names) = refl

abbrev declared_by : List ℕ → List (List ℕ) → List ℕ → ℕ → List Statement → Declared
declared_by title ports prefix before list = record {
  title = title;
  header = ports;
  inputs = flat_map declared_inputs (map whole_statement list);
  outputs = flat_map declared_outputs (map whole_statement list);
  wires = flat_map declared_wires (map whole_statement list);
  gates = statements_gates prefix before (map whole_statement list);
}

one_more : (title : List ℕ) (ports : List (List ℕ)) (prefix : List ℕ) (before : ℕ) (s : Statement) (list : List Statement) → with_statement s (declared_by title ports prefix (before + numbered_nets (whole_statement s)) list) ≡ declared_by title ports prefix before (s ∷ list)
one_more title ports prefix before (inputs names) list = refl
one_more title ports prefix before (outputs names) list = refl
one_more title ports prefix before (wires names) list = refl
one_more title ports prefix before (gates kind instances) list = refl

statements_declared : (title : List ℕ) (ports : List (List ℕ)) (prefix : List ℕ) (before : ℕ) (list : List Statement) → with_statements title ports list ≡ declared_by title ports prefix before list
statements_declared title ports prefix before [] = refl
statements_declared title ports prefix before (s ∷ list) =
    ap (with_statement s) (statements_declared title ports prefix (before + numbered_nets (whole_statement s)) list)
    ∙ one_more title ports prefix before s list

declared_same : (f : File) → meaning.declared_of (whole_file f) ≡ declared_of f
declared_same f =
    let list = map whole_statement f.statements in
    let gates = statements_gates (own_prefix (whole_file f)) 0 list in
    let by : List (List ℕ) → List (List ℕ) → List (List ℕ) → Declared = λ header ins outs. record {
      title = name_of f.title;
      header = header;
      inputs = ins ++ flat_map declared_inputs list;
      outputs = outs ++ flat_map declared_outputs list;
      wires = flat_map declared_wires list;
      gates = gates;
    } in
    ap (λ header. by header (header_that is_in (Some (map whole_port f.ports))) (header_that is_out (Some (map whole_port f.ports)))) (ports_named f.ports)
    ∙ ap (λ ins. by (map name_of f.ports) ins (header_that is_out (Some (map whole_port f.ports)))) (no_inputs f.ports)
    ∙ ap (λ outs. by (map name_of f.ports) [] outs) (no_outputs f.ports)
    ∙ sym (statements_declared (name_of f.title) (map name_of f.ports) (own_prefix (whole_file f)) 0 f.statements)

-- ---- its text

pub gates_text_is_text : GatesTextIsText
gates_text_is_text rule bytes n is =
    let again = sym (declared_same is.file) in
    record {
      file = whole_file is.file;
      text = record {
        tokens = subst (λ tokens. AreTokens bytes tokens) (sym (spelled is.file)) is.tokens;
        proper = proper_same is.file ∙ is.proper;
      };
      faultless = subst (λ d. IsWellFormed rule d) again is.faultless;
      value = subst (λ d. n ≡ made rule d) again is.value;
    }

-- the other way round: a file of gates alone that is a text is one in gates alone
pub gates_text_from : (rule : TargetRule) (bytes : List ℕ) (n : Circuit) (f : File) → IsText bytes (whole_file f) → IsWellFormed rule (meaning.declared_of (whole_file f)) → n ≡ made rule (meaning.declared_of (whole_file f)) → IsGatesText rule bytes n
gates_text_from rule bytes n f text faultless value = record {
  file = f;
  tokens = subst (λ tokens. AreTokens bytes tokens) (spelled f) text.tokens;
  proper = sym (proper_same f) ∙ text.proper;
  faultless = subst (λ d. IsWellFormed rule d) (declared_same f) faultless;
  value = subst (λ d. n ≡ made rule d) (declared_same f) value;
}
