-- The grammar: the tokens that a syntax tree is written with (IEEE 1364-2005, annex A).
use Rattle.std.specs.Prelude.{ℕ, Bool, true, false, ◌&&◌, ◌||◌, not, ◌==◌, nat_le, nat_lt, List, [], ◌∷◌, ◌++◌, length, map, Option, Some, None, codes, IsTrue, if◌then◌else◌}
use Rattle.std.specs.List.{join_by, flat_map, list_all}
use Rattle.eco_meaning.specs.declared.kind.Kind.{Kind}
use Rattle.eco_meaning.specs.declared.kind.Kind.TheVariants.{And, Nand, Or, Nor, Xor, Xnor, Buf, Not}
use Rattle.eco_tokens.specs.declared.TokenKind.TheVariants.{Simple, Word, Escaped, Constant, Mark}
use Rattle.eco_tokens.specs.Said.{Said}
use Rattle.eco_tokens.specs.Tokens.{AreTokens}
use Rattle.eco_vread.specs.declared.tree.Direction.{Direction}
use Rattle.eco_vread.specs.declared.tree.Direction.TheVariants.{In, Out}
use Rattle.eco_vread.specs.declared.tree.Operator.{Operator}
use Rattle.eco_vread.specs.declared.tree.Operator.TheVariants.{Ampersand, Caret, TildeCaret, CaretTilde, Bar}
use Rattle.eco_vread.specs.Syntax.{Identifier, Term, Instance, Expression, Assignment, Statement, Port, File}
use Rattle.eco_vread.specs.Syntax.Term.{low, high, net}
use Rattle.eco_vread.specs.Syntax.Expression.{term, inverse, binary, bracketed}
use Rattle.eco_vread.specs.Syntax.Statement.{input, output, wire, gates, assign}

-- a reserved word; a mark
abbrev pub word : List ℕ → Said
word text = record { kind = Word; text = text }

abbrev pub mark : List ℕ → Said
mark text = record { kind = Mark; text = text }

-- the word that a gate's kind is written with
abbrev pub kind_word : Kind → List ℕ
kind_word And = codes "and"
kind_word Nand = codes "nand"
kind_word Or = codes "or"
kind_word Nor = codes "nor"
kind_word Xor = codes "xor"
kind_word Xnor = codes "xnor"
kind_word Buf = codes "buf"
kind_word Not = codes "not"

-- identifier ::= simple identifier | escaped identifier
abbrev pub spell_name : Identifier → List Said
spell_name i = record { kind = if i.escaped then Escaped else Simple; text = i.text } ∷ []

-- term ::= identifier | 1'b0 | 1'b1
abbrev pub spell_term : Term → List Said
spell_term low = record { kind = Constant; text = codes "1'b0" } ∷ []
spell_term high = record { kind = Constant; text = codes "1'b1" } ∷ []
spell_term (net i) = spell_name i

-- x { , x }
abbrev pub commas : {X : Type 0} → (X → List Said) → List X → List Said
commas spell xs = join_by spell (mark (codes ",") ∷ []) xs

-- [ identifier ]
abbrev pub spell_label : Option Identifier → List Said
spell_label None = []
spell_label (Some i) = spell_name i

-- instance ::= [ identifier ] ( output { , output } , input { , input } )
abbrev pub spell_instance : Instance → List Said
spell_instance i =
    spell_label i.label ++ (mark (codes "(") ∷ (commas spell_term (map net i.outputs ++ i.inputs) ++ mark (codes ")") ∷ []))

-- the mark of an operator
abbrev pub operator_mark : Operator → List ℕ
operator_mark Ampersand = codes "&"
operator_mark Caret = codes "^"
operator_mark TildeCaret = codes "~^"
operator_mark CaretTilde = codes "^~"
operator_mark Bar = codes "|"

-- expression ::= term | ~ expression | expression operator expression | ( expression )
abbrev pub spell_expression : Expression → List Said
spell_expression (term t) = spell_term t
spell_expression (inverse e) = mark (codes "~") ∷ spell_expression e
spell_expression (binary op a b) = spell_expression a ++ (mark (operator_mark op) ∷ spell_expression b)
spell_expression (bracketed e) = mark (codes "(") ∷ (spell_expression e ++ mark (codes ")") ∷ [])

-- assignment ::= identifier = expression
abbrev pub spell_assignment : Assignment → List Said
spell_assignment a = spell_name a.name ++ (mark (codes "=") ∷ spell_expression a.value)

-- [ wire ]
abbrev pub spell_wire : Bool → List Said
spell_wire true = word (codes "wire") ∷ []
spell_wire false = []

-- statement ::= input [ wire ] identifier { , identifier } ;
--             | output [ wire ] identifier { , identifier } ;
--             | wire identifier { , identifier } ;
--             | kind instance { , instance } ;
--             | assign assignment { , assignment } ;
abbrev pub spell_statement : Statement → List Said
spell_statement (input also names) =
    word (codes "input") ∷ (spell_wire also ++ (commas spell_name names ++ mark (codes ";") ∷ []))
spell_statement (output also names) =
    word (codes "output") ∷ (spell_wire also ++ (commas spell_name names ++ mark (codes ";") ∷ []))
spell_statement (wire names) = word (codes "wire") ∷ (commas spell_name names ++ mark (codes ";") ∷ [])
spell_statement (gates kind instances) = word (kind_word kind) ∷ (commas spell_instance instances ++ mark (codes ";") ∷ [])
spell_statement (assign list) = word (codes "assign") ∷ (commas spell_assignment list ++ mark (codes ";") ∷ [])

-- direction ::= input | output
abbrev pub direction_word : Direction → List ℕ
direction_word In = codes "input"
direction_word Out = codes "output"

-- [ direction [ wire ] ]
abbrev pub spell_direction : Option (Direction × Bool) → List Said
spell_direction None = []
spell_direction (Some (direction, also)) = word (direction_word direction) ∷ spell_wire also

-- port ::= [ direction [ wire ] ] identifier
abbrev pub spell_port : Port → List Said
spell_port p = spell_direction p.direction ++ spell_name p.name

-- [ ( [ port { , port } ] ) ]
abbrev pub spell_header : Option (List Port) → List Said
spell_header None = []
spell_header (Some ports) = mark (codes "(") ∷ (commas spell_port ports ++ mark (codes ")") ∷ [])

-- file ::= module identifier header ; { statement } endmodule
abbrev pub spelling : File → List Said
spelling f =
    word (codes "module") ∷ (spell_name f.title ++ (spell_header f.header ++ (mark (codes ";") ∷ (flat_map spell_statement f.statements ++ word (codes "endmodule") ∷ []))))

-- a gate of this kind has exactly one input and any number of outputs; any other has exactly one output
abbrev pub has_one_input : Kind → Bool
has_one_input And = false
has_one_input Nand = false
has_one_input Or = false
has_one_input Nor = false
has_one_input Xor = false
has_one_input Xnor = false
has_one_input Buf = true
has_one_input Not = true

abbrev pub is_full : {X : Type 0} → List X → Bool
is_full [] = false
is_full (x ∷ xs) = true

-- the numbers of outputs and inputs are such as the kind has: one of each at least
abbrev pub is_proper_instance : Kind → Instance → Bool
is_proper_instance kind i =
    if has_one_input kind then is_full i.outputs && length i.inputs == 1 else length i.outputs == 1 && is_full i.inputs

-- how tightly an operator binds (IEEE 1364-2005, table 5-4): `&` before `^`, `~^` and `^~`, and these before `|`
abbrev pub tightness : Operator → ℕ
tightness Ampersand = 3
tightness Caret = 2
tightness TildeCaret = 2
tightness CaretTilde = 2
tightness Bar = 1

-- how tightly an expression holds together: by its last operator, and tighter where that is `~`, or there is none
-- outside brackets
abbrev pub hold : Expression → ℕ
hold (term t) = 4
hold (inverse e) = 4
hold (binary op a b) = tightness op
hold (bracketed e) = 4

-- operators take what holds tighter, and of those that bind equally tight the left one is first
abbrev pub is_grouped : Expression → Bool
is_grouped (term t) = true
is_grouped (inverse e) = is_grouped e && hold e == 4
is_grouped (binary op a b) =
    is_grouped a && is_grouped b && nat_le (tightness op) (hold a) && nat_lt (tightness op) (hold b)
is_grouped (bracketed e) = is_grouped e

-- something is declared, or there is an instance or an assignment; each instance has as many outputs and inputs as
-- its kind, and each expression is grouped as operators bind
abbrev pub is_proper_statement : Statement → Bool
is_proper_statement (input also names) = is_full names
is_proper_statement (output also names) = is_full names
is_proper_statement (wire names) = is_full names
is_proper_statement (gates kind instances) = is_full instances && list_all (is_proper_instance kind) instances
is_proper_statement (assign list) = is_full list && list_all (λ a. is_grouped a.value) list

-- a direction stands before the name
abbrev pub is_directed : Option (Direction × Bool) → Bool
is_directed None = false
is_directed (Some direction) = true

-- directions stand in a header only where its first port has one
abbrev pub is_proper_header : Option (List Port) → Bool
is_proper_header None = true
is_proper_header (Some []) = true
is_proper_header (Some (first ∷ ports)) = is_directed first.direction || list_all (λ p. not (is_directed p.direction)) ports

abbrev pub is_proper : File → Bool
is_proper f = is_proper_header f.header && list_all is_proper_statement f.statements

-- the bytes are a text of this file: its tokens, with white space and comments between
pub record IsText (bytes : List ℕ) (f : File) : Type 0 where
  pub tokens : AreTokens bytes (spelling f)
  pub proper : IsTrue (is_proper f)
