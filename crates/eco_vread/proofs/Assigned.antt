-- The gates of an assignment, with and without operators.
use Rattle.std.proofs.Common.{◌≡◌, ◌≢◌, ℕ, ◌+◌, false, List, [], ◌∷◌, ◌++◌, map, refl, ap, sym, ◌∙◌, arith}
use Rattle.std.specs.Prelude.{◌||◌}
use Rattle.std.specs.List.{list_any}
use Rattle.eco_lists.proofs.Tests.{neither}
use Rattle.std.proofs.lemmas.List.{append-nil}
use Rattle.std.proofs.lemmas.Bool.{eq-eqb, ne_eqb}
use Rattle.eco_meaning.specs.declared.kind.Kind.TheVariants.{Buf}
use Rattle.eco_meaning.specs.declared.name.Operand.{Operand}
use Rattle.eco_meaning.specs.Circuit.{NamedGate}
use Rattle.eco_netlist.specs.Draft.{Declared}
use Rattle.eco_vread.specs.Syntax.{Expression, Assignment, Statement, name_of}
use Rattle.eco_vread.specs.Syntax.Statement.{input, output, wire, gates, assign}
use Rattle.eco_vread.specs.Syntax.Expression.{term, inverse, binary, bracketed}
use Rattle.eco_vread.specs.Meaning.{operators, source, expression_gates, output_of, assignment_gates, declared_gates, numbered_nets, statements_gates, own_prefix}
use Rattle.eco_text.specs.Prefix.{numbered}
use Rattle.eco_vread.specs.Declaring.{with_gates}
use Rattle.eco_vread.specs.OwnGates.{is_assign, HasOwnGates}
use Rattle.eco_vread.specs.declared.tree.Item.{Item}
use Rattle.eco_vread.specs.declared.tree.Module.{Module}
use Rattle.eco_vread.specs.Trees.{statement_of, file_of}

-- without an operator there is no gate
pub no_gates : (driven : ℕ → List ℕ) (before : ℕ) (e : Expression) → operators e ≡ 0 → expression_gates driven before e ≡ []
no_gates driven before (term t) h = refl
no_gates driven before (inverse e) h = absurd (omega arith)
no_gates driven before (binary op a b) h = absurd (omega arith)
no_gates driven before (bracketed e) h = no_gates driven before e h

-- and the term is the same whatever nets operators drive
pub same_source : (driven other : ℕ → List ℕ) (before : ℕ) (e : Expression) → operators e ≡ 0 → source driven before e ≡ source other before e
same_source driven other before (term t) h = refl
same_source driven other before (inverse e) h = absurd (omega arith)
same_source driven other before (binary op a b) h = absurd (omega arith)
same_source driven other before (bracketed e) h = same_source driven other before e h

abbrev pub buffer_of : Assignment → Operand → NamedGate
buffer_of a source = record { kind = Buf; out = name_of a.name; terms = source ∷ [] }

-- the gates are a `buf`
pub buffer_gates : (prefix : List ℕ) (before : ℕ) (a : Assignment) → operators a.value ≡ 0 → assignment_gates prefix before a ≡ buffer_of a (source (numbered prefix) before a.value) ∷ []
buffer_gates prefix before a h = rw (eq-eqb (operators a.value) 0 h) refl

-- the gates are those of the expression
pub operator_gates : (prefix : List ℕ) (before : ℕ) (a : Assignment) → operators a.value ≢ 0 → assignment_gates prefix before a ≡ expression_gates (output_of prefix (name_of a.name) (before + operators a.value)) before a.value
operator_gates prefix before a h = rw (ne_eqb (operators a.value) 0 h) refl

with_none : (d : Declared) → with_gates d [] ≡ d
with_none d = simp append-nil

pub with_buffer : (d : Declared) (driven : ℕ → List ℕ) (prefix : List ℕ) (before : ℕ) (a : Assignment) → operators a.value ≡ 0 → with_gates (with_gates d (expression_gates driven before a.value)) (buffer_of a (source driven before a.value) ∷ []) ≡ with_gates d (assignment_gates prefix before a)
with_buffer d driven prefix before a h =
    ap (λ made. with_gates (with_gates d made) (buffer_of a (source driven before a.value) ∷ [])) (no_gates driven before a.value h)
    ∙ ap (λ l. with_gates l (buffer_of a (source driven before a.value) ∷ [])) (with_none d)
    ∙ ap (λ s. with_gates d (buffer_of a s ∷ [])) (same_source driven (numbered prefix) before a.value h)
    ∙ ap (with_gates d) (sym (buffer_gates prefix before a h))

pub with_operators : (d : Declared) (prefix : List ℕ) (before : ℕ) (a : Assignment) (last : ℕ) → last ≡ before + operators a.value → operators a.value ≢ 0 → with_gates d (expression_gates (output_of prefix (name_of a.name) last) before a.value) ≡ with_gates d (assignment_gates prefix before a)
with_operators d prefix before a last e h =
    ap (λ n. with_gates d (expression_gates (output_of prefix (name_of a.name) n) before a.value)) e ∙ ap (with_gates d) (sym (operator_gates prefix before a h))

-- without assignments the prefix is of no meaning
same_statement : (prefix other : List ℕ) (before : ℕ) (s : Statement) → is_assign s ≡ false → declared_gates prefix before s ≡ declared_gates other before s
same_statement prefix other before (input also names) h = refl
same_statement prefix other before (output also names) h = refl
same_statement prefix other before (wire names) h = refl
same_statement prefix other before (gates kind instances) h = refl
same_statement prefix other before (assign list) h = absurd (cc)

same_statements : (prefix other : List ℕ) (before : ℕ) (statements : List Statement) → list_any is_assign statements ≡ false → statements_gates prefix before statements ≡ statements_gates other before statements
same_statements prefix other before [] h = refl
same_statements prefix other before (s ∷ statements) h =
    let w = neither (is_assign s) (list_any is_assign statements) h in
    ap (λ l. l ++ statements_gates prefix (before + numbered_nets s) statements) (same_statement prefix other before s w.0)
    ∙ ap (λ l. declared_gates other before s ++ l) (same_statements prefix other (before + numbered_nets s) statements w.1)

any_statement : (items : List Item) → list_any is_assign (map statement_of items) ≡ list_any (λ i. is_assign (statement_of i)) items
any_statement [] = refl
any_statement (i ∷ items) = ap (λ b. is_assign (statement_of i) || b) (any_statement items)

pub no_assignments : (prefix : List ℕ) (m : Module) (items : List Item) → items ≡ m.statements.items → list_any (λ i. is_assign (statement_of i)) items ≡ false → HasOwnGates prefix (file_of m)
no_assignments prefix m items e h =
    same_statements prefix (own_prefix (file_of m)) 0 (map statement_of m.statements.items) (ap (λ l. list_any is_assign (map statement_of l)) (sym e) ∙ any_statement items ∙ h)
