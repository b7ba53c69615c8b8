-- Assigned nets have the values of their expressions.
use Rattle.std.proofs.Common.{◌≡◌, ◌≢◌, ℕ, ◌+◌, inl, inr, Bool, true, false, not, List, [], ◌∷◌, ◌++◌, map, refl, ap, sym, subst, ◌∙◌}
use Rattle.std.specs.Prelude.{All, if◌then◌else◌}
use Rattle.std.specs.List.{flat_map, Contains}
use Rattle.std.proofs.lemmas.Bool.{cases_eq, eq-eqb}
use Rattle.std.proofs.lemmas.List.Elements.{All-nil, All-cons, All-append, Contains-append_left, Contains-append_right}
use Rattle.eco_lists.proofs.Members.{Contains_first, Contains_none}
use Rattle.eco_meaning.specs.Circuit.{Circuit, NamedGate, Values, value_of}
use Rattle.eco_meaning.specs.Gates.{apply}
use Rattle.eco_meaning.specs.declared.kind.Kind.TheVariants.{Not}
use Rattle.eco_meaning.specs.declared.name.Operand.TheVariants.{Named}
use Rattle.eco_netlist.specs.declared.draft.TargetRule.{TargetRule}
use Rattle.eco_netlist.specs.Draft.{made}
use Rattle.eco_text.specs.Prefix.{numbered}
use Rattle.eco_vread.specs.declared.tree.Operator.{Operator}
use Rattle.eco_vread.specs.declared.tree.Operator.TheVariants.{Ampersand, Caret, TildeCaret, CaretTilde, Bar}
use Rattle.eco_vread.specs.Syntax.{Expression, Assignment, Statement, File, name_of}
use Rattle.eco_vread.specs.Syntax.Expression.{term, inverse, binary, bracketed}
use Rattle.eco_vread.specs.Syntax.Statement.{input, output, wire, gates, assign}
use Rattle.eco_vread.specs.Meaning.{operator_kind, operators, source, expression_gates, output_of, assignment_gates, own_nets, assignments_gates, declared_gates, numbered_nets, statements_gates, own_prefix, declared_of, operator_value, expression_value, assignments_of, AssignmentsHold}
use Rattle.eco_vread.proofs.Assigned.{no_gates, buffer_of, buffer_gates, operator_gates}

-- each of the gates has its value
abbrev AreHeld : Values → List NamedGate → Type 0
AreHeld v held = (g : NamedGate) → Contains held g → v g.out ≡ apply g.kind (map (value_of v) g.terms)

held_left : (v : Values) (front back : List NamedGate) → AreHeld v (front ++ back) → AreHeld v front
held_left v front back h = λ g c. h g (Contains-append_left front back g c)

held_right : (v : Values) (front back : List NamedGate) → AreHeld v (front ++ back) → AreHeld v back
held_right v front back h = λ g c. h g (Contains-append_right front back g c)

-- the gate that stands for an operator has the operator's value
operator_applies : (op : Operator) (a b : Bool) → apply (operator_kind op) (a ∷ b ∷ []) ≡ operator_value op a b
operator_applies Ampersand true true = refl
operator_applies Ampersand true false = refl
operator_applies Ampersand false b = refl
operator_applies Caret true true = refl
operator_applies Caret true false = refl
operator_applies Caret false true = refl
operator_applies Caret false false = refl
operator_applies TildeCaret true true = refl
operator_applies TildeCaret true false = refl
operator_applies TildeCaret false true = refl
operator_applies TildeCaret false false = refl
operator_applies CaretTilde true true = refl
operator_applies CaretTilde true false = refl
operator_applies CaretTilde false true = refl
operator_applies CaretTilde false false = refl
operator_applies Bar true b = refl
operator_applies Bar false true = refl
operator_applies Bar false false = refl

-- what gives an expression's value has it
source_value : (v : Values) (driven : ℕ → List ℕ) (before : ℕ) (e : Expression) → AreHeld v (expression_gates driven before e) → value_of v (source driven before e) ≡ expression_value v e
source_value v driven before (term t) h = refl
source_value v driven before (inverse e) h =
    let gate : NamedGate = record { kind = Not; out = driven (before + operators (inverse e)); terms = source driven before e ∷ [] } in
    let inner = held_left v (expression_gates driven before e) (gate ∷ []) h in
    held_right v (expression_gates driven before e) (gate ∷ []) h gate (Contains_first gate []) ∙ ap not (source_value v driven before e inner)
source_value v driven before (binary op a b) h =
    let ga = expression_gates driven before a in
    let gb = expression_gates driven (before + operators a) b in
    let gate : NamedGate = record { kind = operator_kind op; out = driven (before + operators (binary op a b)); terms = source driven before a ∷ source driven (before + operators a) b ∷ [] } in
    let rest = held_right v ga (gb ++ gate ∷ []) h in
    let left = source_value v driven before a (held_left v ga (gb ++ gate ∷ []) h) in
    let right = source_value v driven (before + operators a) b (held_left v gb (gate ∷ []) rest) in
    held_right v gb (gate ∷ []) rest gate (Contains_first gate [])
    ∙ ap (λ x. apply (operator_kind op) (x ∷ value_of v (source driven (before + operators a) b) ∷ [])) left
    ∙ ap (λ y. apply (operator_kind op) (expression_value v a ∷ y ∷ [])) right
    ∙ operator_applies op (expression_value v a) (expression_value v b)
source_value v driven before (bracketed e) h = source_value v driven before e h

-- it is the net of the last operator, if there is one
last_net : (driven : ℕ → List ℕ) (before : ℕ) (e : Expression) → operators e ≢ 0 → source driven before e ≡ Named (driven (before + operators e))
last_net driven before (term t) some = absurd (some refl)
last_net driven before (inverse e) some = refl
last_net driven before (binary op a b) some = refl
last_net driven before (bracketed e) some = last_net driven before e some

-- the last operator drives the assigned net
last_output : (prefix name : List ℕ) (last : ℕ) → output_of prefix name last last ≡ name
last_output prefix name last = ap (λ b. if b then name else numbered prefix last) (eq-eqb last last refl)

-- an assigned net has its expression's value
assignment_holds : (v : Values) (prefix : List ℕ) (before : ℕ) (a : Assignment) → AreHeld v (assignment_gates prefix before a) → v (name_of a.name) ≡ expression_value v a.value
assignment_holds v prefix before a h =
    elim (cases_eq (operators a.value) 0) [
      | inl none ↦
          let gate = buffer_of a (source (numbered prefix) before a.value) in
          let buffer = subst (AreHeld v) (buffer_gates prefix before a none) h in
          let inner = subst (AreHeld v) (sym (no_gates (numbered prefix) before a.value none)) (λ g c. absurd (Contains_none g c)) in
          buffer gate (Contains_first gate []) ∙ source_value v (numbered prefix) before a.value inner
      | inr some ↦
          let last = before + operators a.value in
          let driven = output_of prefix (name_of a.name) last in
          let inner = subst (AreHeld v) (operator_gates prefix before a some) h in
          ap v (sym (last_output prefix (name_of a.name) last))
          ∙ ap (value_of v) (sym (last_net driven before a.value some))
          ∙ source_value v driven before a.value inner
    ]

abbrev HasValue : Values → Assignment → Type 0
HasValue v a = v (name_of a.name) ≡ expression_value v a.value

assignments_hold : (v : Values) (prefix : List ℕ) (before : ℕ) (list : List Assignment) → AreHeld v (assignments_gates prefix before list) → All (HasValue v) list
assignments_hold v prefix before [] h = All-nil (HasValue v)
assignments_hold v prefix before (a ∷ list) h =
    let first = assignment_gates prefix before a in
    let rest = assignments_gates prefix (before + own_nets a) list in
    All-cons (HasValue v) a list (assignment_holds v prefix before a (held_left v first rest h)) (assignments_hold v prefix (before + own_nets a) list (held_right v first rest h))

statement_holds : (v : Values) (prefix : List ℕ) (before : ℕ) (s : Statement) → AreHeld v (declared_gates prefix before s) → All (HasValue v) (assignments_of s)
statement_holds v prefix before (input also names) h = All-nil (HasValue v)
statement_holds v prefix before (output also names) h = All-nil (HasValue v)
statement_holds v prefix before (wire names) h = All-nil (HasValue v)
statement_holds v prefix before (gates kind instances) h = All-nil (HasValue v)
statement_holds v prefix before (assign list) h = assignments_hold v prefix before list h

statements_hold : (v : Values) (prefix : List ℕ) (before : ℕ) (statements : List Statement) → AreHeld v (statements_gates prefix before statements) → All (HasValue v) (flat_map assignments_of statements)
statements_hold v prefix before [] h = All-nil (HasValue v)
statements_hold v prefix before (s ∷ statements) h =
    let first = declared_gates prefix before s in
    let rest = statements_gates prefix (before + numbered_nets s) statements in
    All-append (HasValue v) (assignments_of s) (flat_map assignments_of statements) (statement_holds v prefix before s (held_left v first rest h)) (statements_hold v prefix (before + numbered_nets s) statements (held_right v first rest h))

-- so it is in the netlist of a file
pub file_holds : (rule : TargetRule) (f : File) (n : Circuit) → n ≡ made rule (declared_of f) → AssignmentsHold f n
file_holds rule f n e =
    let P : Circuit → Type 0 = AssignmentsHold f in
    subst P (sym e) (λ v consistent. statements_hold v (own_prefix f) 0 f.statements consistent)
