-- A text has more bytes than its netlist has nets, and more than its gates read terms.
use Rattle.std.proofs.Common.{◌≡◌, inl, inr, ℕ, ◌+◌, ◌*◌, ◌<◌, ◌≤◌, Bool, true, false, List, [], ◌∷◌, ◌++◌, length, map, filter, fold, drop, refl, ap, sym, ◌∙◌, arith, length-append, length-drop, Option, Some, None}
use Rattle.std.specs.Prelude.{codes, not, ◌&&◌, ◌||◌, ◌==◌, if◌then◌else◌}
use Rattle.std.proofs.lemmas.Bool.{false≢true, eqb-true, cases_eq}
use Rattle.std.proofs.lemmas.List.Filters.{length-filter_both}
use Rattle.std.proofs.lemmas.List.Sums.{fold-append}
use Rattle.eco_vread.proofs.Statements.{not_one}
use Rattle.std.specs.List.{flat_map, list_all}
use Rattle.std.proofs.lemmas.List.{length-map}
use Rattle.std.proofs.lemmas.Grind.{flat_map-append}
use Rattle.eco_lists.proofs.Tests.{both}
use Rattle.eco_meaning.specs.declared.kind.Kind.{Kind}
use Rattle.eco_meaning.specs.declared.kind.Kind.TheVariants.{Not}
use Rattle.eco_meaning.specs.declared.name.Operand.{Operand}
use Rattle.eco_meaning.specs.declared.name.Operand.TheVariants.{Zero, One, Named}
use Rattle.eco_meaning.specs.Names.{has}
use Rattle.eco_meaning.specs.Circuit.{Circuit, NamedGate, names}
use Rattle.eco_netlist.specs.declared.draft.TargetRule.{TargetRule}
use Rattle.eco_netlist.specs.Draft.{operand_names, gate_names, with_name, nets_of, made, is_mentioned, is_target}
use Rattle.eco_tokens.specs.Said.{Said}
use Rattle.eco_tokens.proofs.Laws.{tokens_fit}
use Rattle.eco_text.specs.Prefix.{numbered}
use Rattle.eco_vread.specs.Syntax.{Identifier, Term, Instance, Expression, Assignment, Statement, Port, File, name_of}
use Rattle.eco_vread.specs.Syntax.Term.{low, high, net}
use Rattle.eco_vread.specs.Syntax.Expression.{term, inverse, binary, bracketed}
use Rattle.eco_vread.specs.Syntax.Statement.{input, output, wire, gates, assign}
use Rattle.eco_vread.specs.Grammar.{mark, word, commas, is_full, has_one_input, operator_mark, spell_name, spell_term, spell_label, spell_instance, spell_expression, spell_assignment, spell_statement, spell_port, spell_header, spelling, is_proper_instance, is_proper_statement, is_proper_header, is_proper}
use Rattle.eco_vread.specs.Meaning.{operand_of, operator_kind, instance_gates, operators, source, expression_gates, output_of, assignment_gates, own_nets, assignments_gates, all_own_nets, header_names, declared_wires, declared_gates, numbered_nets, statements_gates, own_prefix, declared_of}
use Rattle.eco_vread.specs.Declaring.{all_numbered_nets}
use Rattle.eco_vread.proofs.Assigned.{buffer_of, buffer_gates, operator_gates}
use Rattle.eco_vread.proofs.Nets.{with_mentions, lacks, lacks_few, lacks_less, gate_adds, gate_has, mentions-append}
use Rattle.eco_vread.specs.Texts.{IsNetlistText}
use Rattle.eco_vread.proofs.Headers.{port_some}

-- a list of parts is no longer than a list of other parts, each of which is as long
covers : {X Y Z : Type 0} (good : X → Bool) (f : X → List Y) (g : X → List Z) → ((x : X) → good x ≡ true → length (f x) ≤ length (g x)) → (xs : List X) → list_all good xs ≡ true → length (flat_map f xs) ≤ length (flat_map g xs)
covers good f g h [] all = omega arith
covers good f g h (x ∷ xs) all =
    let w = both (good x) (list_all good xs) all in
    omega (arith, h x w.0, covers good f g h xs w.1, length-append (f x) (flat_map f xs), length-append (g x) (flat_map g xs))

-- the same, where commas stand between
covers_commas : {X Y : Type 0} (good : X → Bool) (f : X → List Y) (spell : X → List Said) → ((x : X) → good x ≡ true → length (f x) ≤ length (spell x)) → (xs : List X) → list_all good xs ≡ true → length (flat_map f xs) ≤ length (commas spell xs)
covers_commas good f spell h [] all = omega arith
covers_commas good f spell h (x ∷ xs) all =
    let w = both (good x) (list_all good xs) all in
    let behind : length (flat_map f xs) ≤ length (flat_map (λ y. (mark (codes ",") ∷ []) ++ spell y) xs) =
    covers good f (λ y. (mark (codes ",") ∷ []) ++ spell y) (λ y g. let k = h y g in omega (arith, k)) xs w.1 in
    omega (arith, h x w.0, behind, length-append (f x) (flat_map f xs), length-append (spell x) (flat_map (λ y. (mark (codes ",") ∷ []) ++ spell y) xs))

-- a name is a token
names_behind : (names : List Identifier) → length names ≤ length (flat_map (λ y. (mark (codes ",") ∷ []) ++ spell_name y) names)
names_behind [] = omega arith
names_behind (i ∷ names) = omega (arith, names_behind names, length-append ((mark (codes ",") ∷ []) ++ spell_name i) (flat_map (λ y. (mark (codes ",") ∷ []) ++ spell_name y) names))

names_fit : (names : List Identifier) → length names ≤ length (commas spell_name names)
names_fit [] = omega arith
names_fit (i ∷ names) = omega (arith, names_behind names, length-append (spell_name i) (flat_map (λ y. (mark (codes ",") ∷ []) ++ spell_name y) names))

term_token : (t : Term) → length (spell_term t) ≡ 1
term_token low = refl
term_token high = refl
term_token (net i) = refl

-- terms with commas between
terms_behind : (terms : List Term) → length (flat_map (λ y. (mark (codes ",") ∷ []) ++ spell_term y) terms) ≡ 2 * length terms
terms_behind [] = refl
terms_behind (t ∷ terms) = omega (arith, terms_behind terms, term_token t, length-append ((mark (codes ",") ∷ []) ++ spell_term t) (flat_map (λ y. (mark (codes ",") ∷ []) ++ spell_term y) terms))

terms_fit : (terms : List Term) → 2 * length terms ≤ length (commas spell_term terms) + 1
terms_fit [] = omega arith
terms_fit (t ∷ terms) = omega (arith, terms_behind terms, term_token t, length-append (spell_term t) (flat_map (λ y. (mark (codes ",") ∷ []) ++ spell_term y) terms))

-- an instance has two tokens for each output and each input
instance_fits : (i : Instance) → 2 * (length i.outputs + length i.inputs) ≤ length (spell_instance i)
instance_fits i =
    let terms = map net i.outputs ++ i.inputs in
    omega (
      arith,
      terms_fit terms,
      length-append (map net i.outputs) i.inputs,
      length-map i.outputs net,
      length-append (commas spell_term terms) (mark (codes ")") ∷ []),
      length-append (spell_label i.label) (mark (codes "(") ∷ (commas spell_term terms ++ mark (codes ")") ∷ [])),
    )

operand_few : (o : Operand) → length (operand_names o) ≤ 1
operand_few Zero = omega arith
operand_few One = omega arith
operand_few (Named name) = omega arith

operands_few : (terms : List Operand) → length (flat_map operand_names terms) ≤ length terms
operands_few [] = omega arith
operands_few (o ∷ terms) = omega (arith, operand_few o, operands_few terms, length-append (operand_names o) (flat_map operand_names terms))

-- a gate of an instance
abbrev gate_at : Kind → List Operand → Identifier → NamedGate
gate_at kind terms out = record { kind = kind; out = name_of out; terms = terms }

-- gates of one input mention two names each at most, and read one term each
mentions_one_input : (kind : Kind) (terms : List Operand) → length terms ≤ 1 → (outs : List Identifier) → length (flat_map gate_names (map (gate_at kind terms) outs)) ≤ 2 * length outs
mentions_one_input kind terms h [] = omega arith
mentions_one_input kind terms h (o ∷ outs) =
    omega (arith, operands_few terms, mentions_one_input kind terms h outs, length-append (gate_names (gate_at kind terms o)) (flat_map gate_names (map (gate_at kind terms) outs)))

reads_one_input : (kind : Kind) (terms : List Operand) → length terms ≤ 1 → (outs : List Identifier) → length (flat_map (λ g. g.terms) (map (gate_at kind terms) outs)) ≤ length outs
reads_one_input kind terms h [] = omega arith
reads_one_input kind terms h (o ∷ outs) =
    omega (arith, reads_one_input kind terms h outs, length-append terms (flat_map (λ g. g.terms) (map (gate_at kind terms) outs)))

mentions_one_output : (kind : Kind) (terms : List Operand) (o : Identifier) → length (flat_map gate_names (map (gate_at kind terms) (o ∷ []))) ≤ 1 + length terms
mentions_one_output kind terms o = omega (arith, operands_few terms, length-append (gate_names (gate_at kind terms o)) [])

reads_one_output : (kind : Kind) (terms : List Operand) (o : Identifier) → length (flat_map (λ g. g.terms) (map (gate_at kind terms) (o ∷ []))) ≤ length terms
reads_one_output kind terms o = omega (arith, length-append terms [])

-- the gates of an instance mention at most, and read at most, as many as it has tokens
instance_mentions : (one : Bool) (kind : Kind) (outs : List Identifier) (ins : List Term) → (if one then is_full outs && length ins == 1 else length outs == 1 && is_full ins) ≡ true → length (flat_map gate_names (map (gate_at kind (map operand_of ins)) outs)) ≤ 2 * (length outs + length ins)
instance_mentions true kind outs ins h =
    let one : length ins ≡ 1 = eqb-true (length ins) 1 (both (is_full outs) (length ins == 1) h).1 in
    let few : length (map operand_of ins) ≤ 1 = omega (arith, length-map ins operand_of) in
    omega (arith, mentions_one_input kind (map operand_of ins) few outs)
instance_mentions false kind [] ins h = omega arith
instance_mentions false kind (o ∷ []) ins h = omega (arith, mentions_one_output kind (map operand_of ins) o, length-map ins operand_of)
instance_mentions false kind (o ∷ p ∷ outs) ins h = absurd (false≢true (sym (not_one o p outs) ∙ (both (length (o ∷ p ∷ outs) == 1) (is_full ins) h).0))

instance_reads : (one : Bool) (kind : Kind) (outs : List Identifier) (ins : List Term) → (if one then is_full outs && length ins == 1 else length outs == 1 && is_full ins) ≡ true → length (flat_map (λ g. g.terms) (map (gate_at kind (map operand_of ins)) outs)) ≤ 2 * (length outs + length ins)
instance_reads true kind outs ins h =
    let one : length ins ≡ 1 = eqb-true (length ins) 1 (both (is_full outs) (length ins == 1) h).1 in
    let few : length (map operand_of ins) ≤ 1 = omega (arith, length-map ins operand_of) in
    omega (arith, reads_one_input kind (map operand_of ins) few outs)
instance_reads false kind [] ins h = omega arith
instance_reads false kind (o ∷ []) ins h = omega (arith, reads_one_output kind (map operand_of ins) o, length-map ins operand_of)
instance_reads false kind (o ∷ p ∷ outs) ins h = absurd (false≢true (sym (not_one o p outs) ∙ (both (length (o ∷ p ∷ outs) == 1) (is_full ins) h).0))

flat_map_twice : {A B C : Type 0} (f : B → List C) (g : A → List B) (xs : List A) → flat_map f (flat_map g xs) ≡ flat_map (λ x. flat_map f (g x)) xs
flat_map_twice f g [] = refl
flat_map_twice f g (x ∷ xs) = flat_map-append f (g x) (flat_map g xs) ∙ ap (λ l. flat_map f (g x) ++ l) (flat_map_twice f g xs)

-- an expression's gates add a net for each operator and each term at most
expression_adds : (driven : ℕ → List ℕ) (before : ℕ) (e : Expression) (list : List (List ℕ)) → length (with_mentions list (expression_gates driven before e)) + lacks (with_mentions list (expression_gates driven before e)) (source driven before e) ≤ length list + length (spell_expression e)
expression_adds driven before (term t) list = omega (arith, lacks_few list (operand_of t), term_token t)
expression_adds driven before (inverse e) list =
    let inner = expression_gates driven before e in
    let gate : NamedGate = record { kind = Not; out = driven (before + operators (inverse e)); terms = source driven before e ∷ [] } in
    let made = with_mentions list inner in
    omega (
      arith,
      ap length (mentions-append list inner (gate ∷ [])),
      ap (λ l. lacks l (Named gate.out)) (mentions-append list inner (gate ∷ [])),
      gate_adds made gate,
      gate_has made gate,
      expression_adds driven before e list,
    )
expression_adds driven before (binary op a b) list =
    let ga = expression_gates driven before a in
    let gb = expression_gates driven (before + operators a) b in
    let gate : NamedGate = record { kind = operator_kind op; out = driven (before + operators (binary op a b)); terms = source driven before a ∷ source driven (before + operators a) b ∷ [] } in
    let left = with_mentions list ga in
    let right = with_mentions left gb in
    let all : with_mentions list (ga ++ (gb ++ gate ∷ [])) ≡ with_mentions right (gate ∷ []) = mentions-append list ga (gb ++ gate ∷ []) ∙ mentions-append left gb (gate ∷ []) in
    omega (
      arith,
      ap length all,
      ap (λ l. lacks l (Named gate.out)) all,
      gate_adds right gate,
      gate_has right gate,
      lacks_less left (flat_map gate_names gb) (source driven before a),
      expression_adds driven before a list,
      expression_adds driven (before + operators a) b left,
      length-append (spell_expression a) (mark (operator_mark op) ∷ spell_expression b),
    )
expression_adds driven before (bracketed e) list =
    omega (arith, expression_adds driven before e list, length-append (spell_expression e) (mark (codes ")") ∷ []))

-- they read fewer terms than it has tokens
expression_reads : (driven : ℕ → List ℕ) (before : ℕ) (e : Expression) → length (flat_map (λ g. g.terms) (expression_gates driven before e)) < length (spell_expression e)
expression_reads driven before (term t) = omega (arith, term_token t)
expression_reads driven before (inverse e) =
    let inner = expression_gates driven before e in
    let gate : NamedGate = record { kind = Not; out = driven (before + operators (inverse e)); terms = source driven before e ∷ [] } in
    omega (
      arith,
      ap length (flat_map-append (λ g. g.terms) inner (gate ∷ [])),
      length-append (flat_map (λ g. g.terms) inner) (source driven before e ∷ []),
      expression_reads driven before e,
    )
expression_reads driven before (binary op a b) =
    let ga = expression_gates driven before a in
    let gb = expression_gates driven (before + operators a) b in
    let taken : List Operand = source driven before a ∷ source driven (before + operators a) b ∷ [] in
    let gate : NamedGate = record { kind = operator_kind op; out = driven (before + operators (binary op a b)); terms = taken } in
    omega (
      arith,
      ap length (flat_map-append (λ g. g.terms) ga (gb ++ gate ∷ [])),
      length-append (flat_map (λ g. g.terms) ga) (flat_map (λ g. g.terms) (gb ++ gate ∷ [])),
      ap length (flat_map-append (λ g. g.terms) gb (gate ∷ [])),
      length-append (flat_map (λ g. g.terms) gb) taken,
      expression_reads driven before a,
      expression_reads driven (before + operators a) b,
      length-append (spell_expression a) (mark (operator_mark op) ∷ spell_expression b),
    )
expression_reads driven before (bracketed e) =
    omega (arith, expression_reads driven before e, length-append (spell_expression e) (mark (codes ")") ∷ []))

-- it has fewer operators than tokens
operators_fit : (e : Expression) → operators e < length (spell_expression e)
operators_fit (term t) = omega (arith, term_token t)
operators_fit (inverse e) = omega (arith, operators_fit e)
operators_fit (binary op a b) =
    omega (arith, operators_fit a, operators_fit b, length-append (spell_expression a) (mark (operator_mark op) ∷ spell_expression b))
operators_fit (bracketed e) = omega (arith, operators_fit e, length-append (spell_expression e) (mark (codes ")") ∷ []))

-- the same of assignments
assignment_adds : (prefix : List ℕ) (before : ℕ) (a : Assignment) (list : List (List ℕ)) → length (with_mentions list (assignment_gates prefix before a)) ≤ length list + length (spell_assignment a)
assignment_adds prefix before a list =
    elim (cases_eq (operators a.value) 0) [
      | inl none ↦
          let o = source (numbered prefix) before a.value in
          omega (
            arith,
            ap (λ l. length (with_mentions list l)) (buffer_gates prefix before a none),
            gate_adds list (buffer_of a o),
            lacks_few list o,
            operators_fit a.value,
          )
      | inr some ↦
          let driven = output_of prefix (name_of a.name) (before + operators a.value) in
          omega (
            arith,
            ap (λ l. length (with_mentions list l)) (operator_gates prefix before a some),
            expression_adds driven before a.value list,
          )
    ]

assignment_reads : (prefix : List ℕ) (before : ℕ) (a : Assignment) → length (flat_map (λ g. g.terms) (assignment_gates prefix before a)) ≤ length (spell_assignment a)
assignment_reads prefix before a =
    elim (cases_eq (operators a.value) 0) [
      | inl none ↦ omega (arith, ap (λ l. length (flat_map (λ g. g.terms) l)) (buffer_gates prefix before a none))
      | inr some ↦
          let driven = output_of prefix (name_of a.name) (before + operators a.value) in
          omega (
            arith,
            ap (λ l. length (flat_map (λ g. g.terms) l)) (operator_gates prefix before a some),
            expression_reads driven before a.value,
          )
    ]

assignments_behind : (prefix : List ℕ) (before : ℕ) (assigned : List Assignment) (list : List (List ℕ)) → length (with_mentions list (assignments_gates prefix before assigned)) ≤ length list + length (flat_map (λ y. (mark (codes ",") ∷ []) ++ spell_assignment y) assigned)
assignments_behind prefix before [] list = omega arith
assignments_behind prefix before (a ∷ assigned) list =
    let first = assignment_gates prefix before a in
    let rest = assignments_gates prefix (before + own_nets a) assigned in
    omega (
      arith,
      ap length (mentions-append list first rest),
      assignment_adds prefix before a list,
      assignments_behind prefix (before + own_nets a) assigned (with_mentions list first),
      length-append ((mark (codes ",") ∷ []) ++ spell_assignment a) (flat_map (λ y. (mark (codes ",") ∷ []) ++ spell_assignment y) assigned),
    )

assignments_fit : (prefix : List ℕ) (before : ℕ) (assigned : List Assignment) (list : List (List ℕ)) → length (with_mentions list (assignments_gates prefix before assigned)) ≤ length list + length (commas spell_assignment assigned)
assignments_fit prefix before [] list = omega arith
assignments_fit prefix before (a ∷ assigned) list =
    let first = assignment_gates prefix before a in
    let rest = assignments_gates prefix (before + own_nets a) assigned in
    omega (
      arith,
      ap length (mentions-append list first rest),
      assignment_adds prefix before a list,
      assignments_behind prefix (before + own_nets a) assigned (with_mentions list first),
      length-append (spell_assignment a) (flat_map (λ y. (mark (codes ",") ∷ []) ++ spell_assignment y) assigned),
    )

reads_behind : (prefix : List ℕ) (before : ℕ) (assigned : List Assignment) → length (flat_map (λ g. g.terms) (assignments_gates prefix before assigned)) ≤ length (flat_map (λ y. (mark (codes ",") ∷ []) ++ spell_assignment y) assigned)
reads_behind prefix before [] = omega arith
reads_behind prefix before (a ∷ assigned) =
    let first = assignment_gates prefix before a in
    let rest = assignments_gates prefix (before + own_nets a) assigned in
    omega (
      arith,
      ap length (flat_map-append (λ g. g.terms) first rest),
      length-append (flat_map (λ g. g.terms) first) (flat_map (λ g. g.terms) rest),
      assignment_reads prefix before a,
      reads_behind prefix (before + own_nets a) assigned,
      length-append ((mark (codes ",") ∷ []) ++ spell_assignment a) (flat_map (λ y. (mark (codes ",") ∷ []) ++ spell_assignment y) assigned),
    )

reads_fit : (prefix : List ℕ) (before : ℕ) (assigned : List Assignment) → length (flat_map (λ g. g.terms) (assignments_gates prefix before assigned)) ≤ length (commas spell_assignment assigned)
reads_fit prefix before [] = omega arith
reads_fit prefix before (a ∷ assigned) =
    let first = assignment_gates prefix before a in
    let rest = assignments_gates prefix (before + own_nets a) assigned in
    omega (
      arith,
      ap length (flat_map-append (λ g. g.terms) first rest),
      length-append (flat_map (λ g. g.terms) first) (flat_map (λ g. g.terms) rest),
      assignment_reads prefix before a,
      reads_behind prefix (before + own_nets a) assigned,
      length-append (spell_assignment a) (flat_map (λ y. (mark (codes ",") ∷ []) ++ spell_assignment y) assigned),
    )

own_nets_behind : (assigned : List Assignment) → all_own_nets assigned ≤ length (flat_map (λ y. (mark (codes ",") ∷ []) ++ spell_assignment y) assigned)
own_nets_behind [] = omega arith
own_nets_behind (a ∷ assigned) =
    omega (
      arith,
      operators_fit a.value,
      own_nets_behind assigned,
      length-append ((mark (codes ",") ∷ []) ++ spell_assignment a) (flat_map (λ y. (mark (codes ",") ∷ []) ++ spell_assignment y) assigned),
    )

own_nets_fit : (assigned : List Assignment) → all_own_nets assigned ≤ length (commas spell_assignment assigned)
own_nets_fit [] = omega arith
own_nets_fit (a ∷ assigned) =
    omega (arith, operators_fit a.value, own_nets_behind assigned, length-append (spell_assignment a) (flat_map (λ y. (mark (codes ",") ∷ []) ++ spell_assignment y) assigned))

-- a name is added once at most
name_added : (here : Bool) (list : List (List ℕ)) (name : List ℕ) → length list ≤ length (if here then list else list ++ name ∷ []) × (length (if here then list else list ++ name ∷ []) ≤ length list + 1)
name_added true list name = (omega arith, omega arith)
name_added false list name = (omega (arith, length-append list (name ∷ [])), omega (arith, length-append list (name ∷ [])))

nets_few : (list more : List (List ℕ)) → (length list ≤ length (fold with_name list more)) × (length (fold with_name list more) ≤ length list + length more)
nets_few list [] = (omega arith, omega arith)
nets_few list (name ∷ more) =
    let one = name_added (has list name) list name in
    let rest = nets_few (with_name list name) more in
    (omega (arith, one.0, rest.0), omega (arith, one.1, rest.1))

statement_adds : (prefix : List ℕ) (before : ℕ) (s : Statement) (nets : List (List ℕ)) → is_proper_statement s ≡ true → length (declared_wires s) + length (with_mentions nets (declared_gates prefix before s)) ≤ length nets + length (spell_statement s)
statement_adds prefix before (input also list) nets h = omega arith
statement_adds prefix before (output also list) nets h = omega arith
statement_adds prefix before (wire list) nets h = omega (arith, names_fit list, length-map list name_of, length-append (commas spell_name list) (mark (codes ";") ∷ []))
statement_adds prefix before (gates kind list) nets h =
    let w = both (is_full list) (list_all (is_proper_instance kind) list) h in
    let few = covers_commas (is_proper_instance kind) (λ i. flat_map gate_names (instance_gates kind i)) spell_instance (λ i g. omega (arith, instance_mentions (has_one_input kind) kind i.outputs i.inputs g, instance_fits i)) list w.1 in
    let count = nets_few nets (flat_map gate_names (flat_map (instance_gates kind) list)) in
    omega (arith, few, count.1, ap length (flat_map_twice gate_names (instance_gates kind) list), length-append (commas spell_instance list) (mark (codes ";") ∷ []))
statement_adds prefix before (assign list) nets h = omega (arith, assignments_fit prefix before list nets, length-append (commas spell_assignment list) (mark (codes ";") ∷ []))

statement_reads : (prefix : List ℕ) (before : ℕ) (s : Statement) → is_proper_statement s ≡ true → length (flat_map (λ g. g.terms) (declared_gates prefix before s)) ≤ length (spell_statement s)
statement_reads prefix before (input also list) h = omega arith
statement_reads prefix before (output also list) h = omega arith
statement_reads prefix before (wire list) h = omega arith
statement_reads prefix before (gates kind list) h =
    let w = both (is_full list) (list_all (is_proper_instance kind) list) h in
    let few = covers_commas (is_proper_instance kind) (λ i. flat_map (λ g. g.terms) (instance_gates kind i)) spell_instance (λ i g. omega (arith, instance_reads (has_one_input kind) kind i.outputs i.inputs g, instance_fits i)) list w.1 in
    omega (arith, few, ap length (flat_map_twice (λ g. g.terms) (instance_gates kind) list), length-append (commas spell_instance list) (mark (codes ";") ∷ []))
statement_reads prefix before (assign list) h = omega (arith, reads_fit prefix before list, length-append (commas spell_assignment list) (mark (codes ";") ∷ []))

statement_numbers : (s : Statement) → numbered_nets s ≤ length (spell_statement s)
statement_numbers (input also list) = omega arith
statement_numbers (output also list) = omega arith
statement_numbers (wire list) = omega arith
statement_numbers (gates kind list) = omega arith
statement_numbers (assign list) = omega (arith, own_nets_fit list, length-append (commas spell_assignment list) (mark (codes ";") ∷ []))

all_add : (prefix : List ℕ) (before : ℕ) (list : List Statement) (nets : List (List ℕ)) → list_all is_proper_statement list ≡ true → length (flat_map declared_wires list) + length (with_mentions nets (statements_gates prefix before list)) ≤ length nets + length (flat_map spell_statement list)
all_add prefix before [] nets h = omega arith
all_add prefix before (s ∷ list) nets h =
    let w = both (is_proper_statement s) (list_all is_proper_statement list) h in
    let first = declared_gates prefix before s in
    let rest = statements_gates prefix (before + numbered_nets s) list in
    omega (
      arith,
      statement_adds prefix before s nets w.0,
      all_add prefix (before + numbered_nets s) list (with_mentions nets first) w.1,
      length-append (declared_wires s) (flat_map declared_wires list),
      ap length (mentions-append nets first rest),
      length-append (spell_statement s) (flat_map spell_statement list),
    )

all_reads : (prefix : List ℕ) (before : ℕ) (list : List Statement) → list_all is_proper_statement list ≡ true → length (flat_map (λ g. g.terms) (statements_gates prefix before list)) ≤ length (flat_map spell_statement list)
all_reads prefix before [] h = omega arith
all_reads prefix before (s ∷ list) h =
    let w = both (is_proper_statement s) (list_all is_proper_statement list) h in
    let first = declared_gates prefix before s in
    let rest = statements_gates prefix (before + numbered_nets s) list in
    omega (
      arith,
      statement_reads prefix before s w.0,
      all_reads prefix (before + numbered_nets s) list w.1,
      ap length (flat_map-append (λ g. g.terms) first rest),
      length-append (flat_map (λ g. g.terms) first) (flat_map (λ g. g.terms) rest),
      length-append (spell_statement s) (flat_map spell_statement list),
    )

all_number : (list : List Statement) → all_numbered_nets list ≤ length (flat_map spell_statement list)
all_number [] = omega arith
all_number (s ∷ list) = omega (arith, statement_numbers s, all_number list, length-append (spell_statement s) (flat_map spell_statement list))

filter_few : {X : Type 0} (p : X → Bool) (xs : List X) → length (filter p xs) ≤ length xs
filter_few p xs = omega (arith, length-filter_both p (λ x. not (p x)) (λ x. refl) xs)

ports_behind : (ports : List Port) → length ports ≤ length (flat_map (λ y. (mark (codes ",") ∷ []) ++ spell_port y) ports)
ports_behind [] = omega arith
ports_behind (p ∷ ports) = omega (arith, ports_behind ports, length-append ((mark (codes ",") ∷ []) ++ spell_port p) (flat_map (λ y. (mark (codes ",") ∷ []) ++ spell_port y) ports))

ports_fit : (ports : List Port) → length ports ≤ length (commas spell_port ports)
ports_fit [] = omega arith
ports_fit (p ∷ ports) = omega (arith, port_some p, ports_behind ports, length-append (spell_port p) (flat_map (λ y. (mark (codes ",") ∷ []) ++ spell_port y) ports))

header_fits : (header : Option (List Port)) → length (header_names header) ≤ length (spell_header header)
header_fits None = omega arith
header_fits (Some ports) = omega (arith, ports_fit ports, length-map ports (λ p. name_of p.name), length-append (commas spell_port ports) (mark (codes ")") ∷ []))

spelling_long : (f : File) → length (spell_header f.header) + length (flat_map spell_statement f.statements) + 4 ≤ length (spelling f)
spelling_long f =
    omega (
      arith,
      length-append (spell_header f.header) (mark (codes ";") ∷ (flat_map spell_statement f.statements ++ word (codes "endmodule") ∷ [])),
      length-append (flat_map spell_statement f.statements) (word (codes "endmodule") ∷ []),
    )

-- fewer nets are numbered than there are tokens
pub few_numbers : (f : File) → all_numbered_nets f.statements + 4 ≤ length (spelling f)
few_numbers f = omega (arith, all_number f.statements, spelling_long f)

proper_statements : (f : File) → is_proper f ≡ true → list_all is_proper_statement f.statements ≡ true
proper_statements f h = (both (is_proper_header f.header) (list_all is_proper_statement f.statements) h).1

made_few : (rule : TargetRule) (f : File) → is_proper f ≡ true → length (names (made rule (declared_of f))) < length (spelling f)
made_few rule f h =
    let d = declared_of f in
    let live = λ (wire : List ℕ). is_mentioned d wire || is_target rule d wire in
    let wires = fold with_name d.header (filter live d.wires) in
    let count = nets_few d.header (filter live d.wires) in
    let more = nets_few wires (flat_map gate_names d.gates) in
    omega (
      arith,
      count.0,
      count.1,
      more.0,
      ap length (fold-append with_name d.header (filter live d.wires) (flat_map gate_names d.gates)),
      filter_few live d.wires,
      length-append d.header (drop (length d.header) (nets_of rule d)),
      length-drop (length d.header) (nets_of rule d),
      all_add (own_prefix f) 0 f.statements wires (proper_statements f h),
      header_fits f.header,
      spelling_long f,
    )

-- fewer nets than bytes
pub few_nets : (rule : TargetRule) (bytes : List ℕ) (n : Circuit) → IsNetlistText rule bytes n → length (names n) < length bytes
few_nets rule bytes n text =
    omega (arith, ap (λ c. length (names c)) text.value, made_few rule text.file text.text.proper, tokens_fit bytes (spelling text.file) text.text.tokens)

-- fewer terms that gates read than bytes
pub few_terms : (rule : TargetRule) (bytes : List ℕ) (n : Circuit) → IsNetlistText rule bytes n → length (flat_map (λ g. g.terms) n.gates) < length bytes
few_terms rule bytes n text =
    omega (arith, ap (λ c. length (flat_map (λ g. g.terms) c.gates)) text.value, all_reads (own_prefix text.file) 0 text.file.statements (proper_statements text.file text.text.proper), spelling_long text.file, tokens_fit bytes (spelling text.file) text.text.tokens)
