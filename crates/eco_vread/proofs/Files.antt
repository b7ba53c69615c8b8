-- Readers of statements and of files.
use Rattle.std.proofs.Common.{◌≡◌, ℕ, ◌≤◌, Bool, true, false, List, [], ◌∷◌, ◌++◌, length, refl, ap, sym, ◌∙◌, arith, append_assoc, Option, Some, None, bytes_eq}
use Rattle.std.proofs.lemmas.List.{append-nil}
use Rattle.std.specs.Prelude.{option_map, codes, if◌then◌else◌}
use Rattle.std.specs.List.{flat_map, list_all}
use Rattle.std.proofs.lemmas.Slice.Eq.{bytes_eq-Decides}
use Rattle.eco_lists.proofs.Tests.{both}
use Rattle.eco_meaning.specs.declared.kind.Kind.{Kind}
use Rattle.eco_meaning.specs.declared.kind.Kind.TheVariants.{And, Nand, Or, Nor, Xor, Xnor, Buf, Not}
use Rattle.eco_tokens.specs.declared.TokenKind.{TokenKind}
use Rattle.eco_tokens.specs.declared.TokenKind.TheVariants.{Simple, Word, Escaped, Constant, Mark}
use Rattle.eco_tokens.specs.Said.{Said}
use Rattle.eco_vread.specs.declared.words.Opening.{Opening}
use Rattle.eco_vread.specs.declared.words.Opening.TheVariants.{Input, Output, Wire, Gate, Assign}
use Rattle.eco_vread.specs.Syntax.{Identifier, Statement, File}
use Rattle.eco_vread.specs.Syntax.Statement.{input, output, wire, gates, assign}
use Rattle.eco_vread.specs.Grammar.{mark, word, kind_word, is_full, spell_name, spell_wire, spell_instance, spell_assignment, spell_statement, spell_header, spelling, is_proper_instance, is_proper_statement, is_proper_header, is_proper}
use Rattle.eco_vread.specs.Fronts.{Step, repeated, list_at, name_at, mark_at, word_at, is_word_kind, wire_at}
use Rattle.eco_vread.specs.Parse.{instance_at, assignment_at, kind_of, opening_of, opening_at, statement_from, statement_at, item_from, item_at, statements_at, header_at, file_at, if_whole}
use Rattle.eco_vread.specs.Fronts.Step.{more, last}
use Rattle.eco_vread.proofs.Repeats.{Shrinks, by_chain, rest_of}
use Rattle.eco_vread.proofs.Readers.{IsReader, value_or, found_at, reader_less, repeated_reader, spell_repeated, good_repeated}
use Rattle.eco_vread.proofs.Singles.{any, listed, semicolon, name_reader, mark_takes, word_takes, pair_takes, mapped_takes}
use Rattle.eco_vread.proofs.Listed.{list_reader, spell_list, good_list}
use Rattle.eco_vread.proofs.Statements.{all_good, instance_reader}
use Rattle.eco_vread.proofs.Headers.{wire_takes, wire_again, header_takes, header_again}
use Rattle.eco_vread.proofs.Assignments.{is_well_grouped, assignment_listed}
use Rattle.std.proofs.lemmas.Bool.{and_from}

-- the word of an opening
abbrev opening_word : Opening → List ℕ
opening_word Input = codes "input"
opening_word Output = codes "output"
opening_word Wire = codes "wire"
opening_word (Gate kind) = kind_word kind
opening_word Assign = codes "assign"

-- a value that stands by a text, or another
by_text : {K P : Type 0} (same : Bool) (text wanted : List ℕ) (k x : K) (o : Option K) → bytes_eq text wanted ≡ same → (k ≡ x → text ≡ wanted → P) → (o ≡ Some x → P) → (if same then Some k else o) ≡ Some x → P
by_text true text wanted k x o e f g h = f (cc) ((bytes_eq-Decides text wanted).0 e)
by_text false text wanted k x o e f g h = g h

kind_takes : (text : List ℕ) (x : Kind) → kind_of text ≡ Some x → text ≡ kind_word x
unfolding kind_of
kind_takes text x h =
    let named = λ (k : Kind) (e : k ≡ x) (t : text ≡ kind_word k). t ∙ ap kind_word e in
    by_text _ text (codes "and") And x _ refl (named And)
    (by_text _ text (codes "nand") Nand x _ refl (named Nand)
    (by_text _ text (codes "or") Or x _ refl (named Or)
    (by_text _ text (codes "nor") Nor x _ refl (named Nor)
    (by_text _ text (codes "xor") Xor x _ refl (named Xor)
    (by_text _ text (codes "xnor") Xnor x _ refl (named Xnor)
    (by_text _ text (codes "buf") Buf x _ refl (named Buf)
    (by_text _ text (codes "not") Not x None refl (named Not) (λ n. absurd (cc))))))))) h

gate_takes : (text : List ℕ) (x : Opening) (o : Option Kind) → ((k : Kind) → o ≡ Some k → text ≡ kind_word k) → option_map Gate o ≡ Some x → text ≡ opening_word x
gate_takes text x None f h = absurd (cc)
gate_takes text x (Some k) f h = f k refl ∙ ap opening_word (let e : Gate k ≡ x = cc in e)

opening_of_takes : (text : List ℕ) (x : Opening) → opening_of text ≡ Some x → text ≡ opening_word x
unfolding opening_of
opening_of_takes text x h =
    let named = λ (k : Opening) (e : k ≡ x) (t : text ≡ opening_word k). t ∙ ap opening_word e in
    by_text _ text (codes "input") Input x _ refl (named Input)
    (by_text _ text (codes "output") Output x _ refl (named Output)
    (by_text _ text (codes "wire") Wire x _ refl (named Wire)
    (by_text _ text (codes "assign") Assign x _ refl (named Assign) (gate_takes text x (kind_of text) (kind_takes text))))) h

opening_found : (ts us : List Said) (o : Option Opening) (x : Opening) → option_map {U = Opening × List Said} (λ o. (o, ts)) o ≡ Some (x, us) → (o ≡ Some x) × (ts ≡ us)
opening_found ts us None x h = absurd (cc)
opening_found ts us (Some o) x h = (ap Some (ap (value_or o) h), ap rest_of h)

opening_parts : (kind : TokenKind) (text : List ℕ) (ts us : List Said) (x : Opening) → (if is_word_kind kind then option_map {U = Opening × List Said} (λ o. (o, ts)) (opening_of text) else None) ≡ Some (x, us) → record { kind = kind; text = text } ∷ ts ≡ word (opening_word x) ∷ us
opening_parts Word text ts us x h =
    let w = opening_found ts us (opening_of text) x h in
    ap (λ l. word l ∷ ts) (opening_of_takes text x w.0) ∙ ap (λ l. word (opening_word x) ∷ l) w.1
opening_parts Simple text ts us x h = absurd (cc)
opening_parts Escaped text ts us x h = absurd (cc)
opening_parts Constant text ts us x h = absurd (cc)
opening_parts Mark text ts us x h = absurd (cc)

opening_takes : (ts us : List Said) (x : Opening) → opening_at ts ≡ Some (x, us) → ts ≡ word (opening_word x) ∷ us
unfolding opening_at
opening_takes [] us x h = absurd (cc)
opening_takes (t ∷ ts) us x h = opening_parts t.kind t.text ts us x h

kind_again : (us : List Said) (kind : Kind) → opening_at (word (kind_word kind) ∷ us) ≡ Some (Gate kind, us)
unfolding opening_at opening_of kind_of
kind_again us And = refl
kind_again us Nand = refl
kind_again us Or = refl
kind_again us Nor = refl
kind_again us Xor = refl
kind_again us Xnor = refl
kind_again us Buf = refl
kind_again us Not = refl

opening_again : (us : List Said) (x : Opening) → opening_at (word (opening_word x) ∷ us) ≡ Some (x, us)
unfolding opening_at opening_of
opening_again us Input = refl
opening_again us Output = refl
opening_again us Wire = refl
opening_again us (Gate kind) = kind_again us kind
opening_again us Assign = refl

names_reader : IsReader (list_at name_at (codes ";")) (spell_list spell_name (codes ";")) (good_list any)
names_reader = list_reader name_at spell_name any (codes ";") (listed name_at spell_name any name_reader (codes ";")) semicolon

instances_reader : (kind : Kind) → IsReader (list_at (instance_at kind) (codes ";")) (spell_list spell_instance (codes ";")) (good_list (is_proper_instance kind))
instances_reader kind =
    list_reader (instance_at kind) spell_instance (is_proper_instance kind) (codes ";") (listed (instance_at kind) spell_instance (is_proper_instance kind) (instance_reader kind) (codes ";")) semicolon

assignments_reader : IsReader (list_at assignment_at (codes ";")) (spell_list spell_assignment (codes ";")) (good_list is_well_grouped)
assignments_reader = list_reader assignment_at spell_assignment is_well_grouped (codes ";") assignment_listed semicolon

list_is_full : (xs : List Identifier) → good_list any xs ≡ true → is_full xs ≡ true
list_is_full xs g = (both (is_full xs) (list_all any xs) g).0

from_takes : (o : Opening) (ts us : List Said) (s : Statement) → statement_from o ts ≡ Some (s, us) → ((word (opening_word o) ∷ []) ++ ts ≡ spell_statement s ++ us) × (is_proper_statement s ≡ true)
unfolding statement_from
from_takes Input ts us s h =
    let w = mapped_takes (spell_list spell_name (codes ";")) (good_list any) spell_statement is_proper_statement (input (wire_at ts).0) (word (codes "input") ∷ spell_wire (wire_at ts).0) (λ x. refl) list_is_full (wire_at ts).1 us s (list_at name_at (codes ";") (wire_at ts).1) (names_reader.takes (wire_at ts).1) h in
    (ap (λ l. word (codes "input") ∷ l) (wire_takes ts) ∙ w.0, w.1)
from_takes Output ts us s h =
    let w = mapped_takes (spell_list spell_name (codes ";")) (good_list any) spell_statement is_proper_statement (output (wire_at ts).0) (word (codes "output") ∷ spell_wire (wire_at ts).0) (λ x. refl) list_is_full (wire_at ts).1 us s (list_at name_at (codes ";") (wire_at ts).1) (names_reader.takes (wire_at ts).1) h in
    (ap (λ l. word (codes "output") ∷ l) (wire_takes ts) ∙ w.0, w.1)
from_takes Wire ts us s h =
    mapped_takes (spell_list spell_name (codes ";")) (good_list any) spell_statement is_proper_statement wire (word (codes "wire") ∷ []) (λ x. refl) list_is_full ts us s (list_at name_at (codes ";") ts) (names_reader.takes ts) h
from_takes (Gate kind) ts us s h =
    mapped_takes (spell_list spell_instance (codes ";")) (good_list (is_proper_instance kind)) spell_statement is_proper_statement (gates kind) (word (kind_word kind) ∷ []) (λ x. refl) (λ x g. g) ts us s (list_at (instance_at kind) (codes ";") ts) ((instances_reader kind).takes ts) h
from_takes Assign ts us s h =
    mapped_takes (spell_list spell_assignment (codes ";")) (good_list is_well_grouped) spell_statement is_proper_statement assign (word (codes "assign") ∷ []) (λ x. refl) (λ x g. g) ts us s (list_at assignment_at (codes ";") ts) (assignments_reader.takes ts) h

statement_takes : (ts us : List Said) (s : Statement) → statement_at ts ≡ Some (s, us) → (ts ≡ spell_statement s ++ us) × (is_proper_statement s ≡ true)
unfolding statement_at
statement_takes ts us s h =
    by_chain (opening_at ts) _ _ h (λ found e f.
    let w = from_takes found.0 found.1 us s f in
    (opening_takes ts found.1 found.0 e ∙ w.0, w.1))

-- a name that begins a list
list_head : (also : Bool) (names : List Identifier) (us : List Said) → is_full names ≡ true → wire_at (spell_wire also ++ (spell_list spell_name (codes ";") names ++ us)) ≡ (also, spell_list spell_name (codes ";") names ++ us)
list_head also [] us g = absurd (cc)
list_head also (i ∷ names) us g = wire_again _ also i

statement_again : (us : List Said) (s : Statement) → is_proper_statement s ≡ true → statement_at (spell_statement s ++ us) ≡ Some (s, us)
unfolding statement_at statement_from
statement_again us (input also names) g =
    rw (opening_again _ Input, append_assoc (spell_wire also) (spell_list spell_name (codes ";") names) us, list_head also names us g, names_reader.again us names (rw (all_good names, g) refl)) refl
statement_again us (output also names) g =
    rw (opening_again _ Output, append_assoc (spell_wire also) (spell_list spell_name (codes ";") names) us, list_head also names us g, names_reader.again us names (rw (all_good names, g) refl)) refl
statement_again us (wire names) g =
    rw (opening_again _ Wire, names_reader.again us names (rw (all_good names, g) refl)) refl
statement_again us (gates kind instances) g =
    rw (opening_again _ (Gate kind), (instances_reader kind).again us instances g) refl
statement_again us (assign list) g =
    rw (opening_again _ Assign, assignments_reader.again us list g) refl

statement_some : (s : Statement) → 1 ≤ length (spell_statement s)
statement_some (input also names) = omega arith
statement_some (output also names) = omega arith
statement_some (wire names) = omega arith
statement_some (gates kind instances) = omega arith
statement_some (assign list) = omega arith

abbrev spell_item : Step Statement (Unit {0}) → List Said
spell_item (more s) = spell_statement s
spell_item (last u) = word (codes "endmodule") ∷ []

abbrev good_item : Step Statement (Unit {0}) → Bool
good_item (more s) = is_proper_statement s
good_item (last u) = true

item_parts : (ts us : List Said) (s : Step Statement (Unit {0})) (o : Option (List Said)) → word_at (codes "endmodule") ts ≡ o → item_from ts o ≡ found_at s us → (ts ≡ spell_item s ++ us) × (good_item s ≡ true)
item_parts ts us s None e h =
    mapped_takes spell_statement is_proper_statement spell_item good_item more [] (λ x. refl) (λ x g. g) ts us s (statement_at ts) (λ vs x. statement_takes ts vs x) h
item_parts ts us s (Some vs) e h =
    let w = pair_takes spell_item good_item (last tt) s vs us refl h in
    (word_takes (codes "endmodule") ts vs e ∙ w.0, w.1)

item_takes : (ts us : List Said) (s : Step Statement (Unit {0})) → item_at ts ≡ Some (s, us) → (ts ≡ spell_item s ++ us) × (good_item s ≡ true)
unfolding item_at
item_takes ts us s h = item_parts ts us s (word_at (codes "endmodule") ts) refl h

no_end_gate : (us : List Said) (kind : Kind) → word_at (codes "endmodule") (word (kind_word kind) ∷ us) ≡ None
unfolding word_at
no_end_gate us And = refl
no_end_gate us Nand = refl
no_end_gate us Or = refl
no_end_gate us Nor = refl
no_end_gate us Xor = refl
no_end_gate us Xnor = refl
no_end_gate us Buf = refl
no_end_gate us Not = refl

-- a statement does not begin with the word that ends the module
no_end : (us : List Said) (s : Statement) → word_at (codes "endmodule") (spell_statement s ++ us) ≡ None
unfolding word_at
no_end us (input also names) = refl
no_end us (output also names) = refl
no_end us (wire names) = refl
no_end us (gates kind instances) = no_end_gate _ kind
no_end us (assign list) = refl

item_again : (us : List Said) (s : Step Statement (Unit {0})) → good_item s ≡ true → item_at (spell_item s ++ us) ≡ Some (s, us)
unfolding item_at word_at
item_again us (last u) g = refl
item_again us (more s) g =
    ap (item_from (spell_statement s ++ us)) (no_end us s)
    ∙ ap (option_map {U = Step Statement (Unit {0}) × List Said} (λ r. (more r.0, r.1))) (statement_again us s g)

item_some : (s : Step Statement (Unit {0})) → 1 ≤ length (spell_item s)
item_some (more s) = statement_some s
item_some (last u) = omega arith

item_reader : IsReader item_at spell_item good_item
item_reader = record { takes = item_takes; again = item_again; some = item_some }

pub item_less : Shrinks item_at
item_less = reader_less item_at spell_item good_item item_reader

items_reader : IsReader (λ ts. repeated item_at ts) (spell_repeated spell_item) (good_repeated good_item)
items_reader = repeated_reader item_at spell_item good_item item_reader

pub no_statements : (ts : List Said) → repeated item_at ts ≡ None → statements_at ts ≡ None
unfolding statements_at
no_statements ts h = rw h refl

pub all_statements : (ts us : List Said) (list : List Statement) → repeated item_at ts ≡ Some ((list, tt), us) → statements_at ts ≡ Some (list, us)
unfolding statements_at
all_statements ts us list h = rw h refl

abbrev spell_statements : List Statement → List Said
spell_statements list = flat_map spell_statement list ++ word (codes "endmodule") ∷ []

statements_take : (ts us : List Said) (list : List Statement) → statements_at ts ≡ Some (list, us) → (ts ≡ spell_statements list ++ us) × (list_all is_proper_statement list ≡ true)
unfolding statements_at
statements_take ts us list h =
    mapped_takes (spell_repeated spell_item) (good_repeated good_item) spell_statements (λ l. list_all is_proper_statement l) (λ r. r.0) [] (λ x. refl) (λ x g. (both (list_all is_proper_statement x.0) true g).0) ts us list (repeated item_at ts) (λ vs x. items_reader.takes ts vs x) h

statements_again : (us : List Said) (list : List Statement) → list_all is_proper_statement list ≡ true → statements_at (spell_statements list ++ us) ≡ Some (list, us)
statements_again us list g =
    all_statements (spell_statements list ++ us) us list (items_reader.again us (list, tt) (rw g refl))

whole_takes : (x f : File) (ts : List Said) → if_whole x ts ≡ Some f → (ts ≡ []) × (x ≡ f)
whole_takes x f [] h = (refl, cc)
whole_takes x f (t ∷ ts) h = absurd (cc)

-- what is read is written so
pub file_takes : (ts : List Said) (f : File) → file_at ts ≡ Some f → (ts ≡ spelling f) × (is_proper f ≡ true)
unfolding file_at
file_takes ts f h =
    by_chain (word_at (codes "module") ts) _ _ h (λ us a h1.
    by_chain (name_at us) _ _ h1 (λ title b h2.
    by_chain (header_at title.1) _ _ h2 (λ header d h3.
    by_chain (mark_at (codes ";") header.1) _ _ h3 (λ vs e h4.
    by_chain (statements_at vs) _ _ h4 (λ list g h5.
    let made : File = record { title = title.0; header = header.0; statements = list.0 } in
    let w = whole_takes made f list.1 h5 in
    let s = statements_take vs list.1 list.0 g in
    let body : vs ≡ spell_statements list.0 = s.0 ∙ ap (λ l. spell_statements list.0 ++ l) w.0 ∙ append-nil (spell_statements list.0) in (
      word_takes (codes "module") ts us a ∙ ap (λ l. word (codes "module") ∷ l) ((name_reader.takes us title.1 title.0 b).0
          ∙ ap (λ l. spell_name title.0 ++ l) ((header_takes title.1 header.1 header.0 d).0
          ∙ ap (λ l. spell_header header.0 ++ l) (mark_takes (codes ";") header.1 vs e ∙ ap (λ l. mark (codes ";") ∷ l) body)))
          ∙ ap spelling w.1,
      ap is_proper (sym w.1) ∙ and_from _ _ (header_takes title.1 header.1 header.0 d).1 s.1,
    ))))))

-- what is written is read
pub file_again : (f : File) → is_proper f ≡ true → file_at (spelling f) ≡ Some f
unfolding file_at word_at mark_at
file_again f g =
    let body = spell_statements f.statements in
    let parts = both (is_proper_header f.header) (list_all is_proper_statement f.statements) g in
    let s : statements_at (spell_statements f.statements) ≡ Some (f.statements, []) = ap statements_at (sym (append-nil (spell_statements f.statements))) ∙ statements_again [] f.statements parts.1 in
    rw (name_reader.again _ f.title refl, header_again (spell_statements f.statements) f.header parts.0, s) refl
