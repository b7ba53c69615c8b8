-- Expressions, read from the left into postfix form, as functions on lists.
use Rattle.std.specs.Prelude.{ℕ, Bool, true, false, ◌&&◌, nat_le, List, [], ◌∷◌, ◌++◌, Option, Some, None, option_map, codes, if◌then◌else◌}
use Rattle.std.specs.Str.{bytes_eq}
use Rattle.eco_tokens.specs.declared.TokenKind.{TokenKind}
use Rattle.eco_tokens.specs.Said.{Said}
use Rattle.eco_tokens.specs.Cells.{is_mark_kind}
use Rattle.eco_vread.specs.declared.tree.Operator.{Operator}
use Rattle.eco_vread.specs.declared.tree.Operator.TheVariants.{Ampersand, Caret, TildeCaret, CaretTilde, Bar}
use Rattle.eco_vread.specs.declared.expression.Waiting.{Waiting}
use Rattle.eco_vread.specs.declared.expression.Waiting.TheVariants.{Tilde, Bracket, Left}
use Rattle.eco_vread.specs.Syntax.{Expression}
use Rattle.eco_vread.specs.Postfix.{Sign, expression_of}
use Rattle.eco_vread.specs.Postfix.Sign.{operand, inversion, operation, brackets}
use Rattle.eco_vread.specs.Grammar.{tightness}
use Rattle.eco_vread.specs.Fronts.{Found, term_from}

-- A place, with what waits for an operand before it, the last one first, and with the postfix form so far: an operand
-- is wanted there, or stands before it.
pub data Place : Type 0 where
  wanted : List Waiting → List Sign → Place
  given : List Waiting → List Sign → Place

-- behind an operand, each `~` before it has its own
unfoldable pub reduced : List Waiting → List Sign → Place
reduced [] signs = given [] signs
reduced (Tilde ∷ stack) signs = reduced stack (signs ++ inversion ∷ [])
reduced (Bracket ∷ stack) signs = given (Bracket ∷ stack) signs
reduced (Left op ∷ stack) signs = given (Left op ∷ stack) signs

-- behind an operand, operators that bind at least so tightly have their right one
unfoldable pub joined : ℕ → List Waiting → List Sign → Place
joined least [] signs = given [] signs
joined least (Tilde ∷ stack) signs = given (Tilde ∷ stack) signs
joined least (Bracket ∷ stack) signs = given (Bracket ∷ stack) signs
joined least (Left op ∷ stack) signs =
    if nat_le least (tightness op) then joined least stack (signs ++ operation op ∷ []) else given (Left op ∷ stack) signs

unfoldable pub operator_of : List ℕ → Option Operator
operator_of text =
    if bytes_eq text (codes "&") then Some Ampersand
    else (if bytes_eq text (codes "^") then Some Caret
    else (if bytes_eq text (codes "~^") then Some TildeCaret
    else (if bytes_eq text (codes "^~") then Some CaretTilde
    else (if bytes_eq text (codes "|") then Some Bar else None))))

-- the operator that stands at the front
abbrev pub operator_from : TokenKind → List ℕ → Option Operator
operator_from kind text = if is_mark_kind kind then operator_of text else None

unfoldable pub operator_at : List Said → Found Operator
operator_at [] = None
operator_at (t ∷ ts) = option_map (λ op. (op, ts)) (operator_from t.kind t.text)

-- a token where an operand is wanted; none where it can't stand there
abbrev pub opened : Said → List Waiting → List Sign → Option Place
opened t stack signs =
    if is_mark_kind t.kind && bytes_eq t.text (codes "~") then Some (wanted (Tilde ∷ stack) signs)
    else (if is_mark_kind t.kind && bytes_eq t.text (codes "(") then Some (wanted (Bracket ∷ stack) signs)
    else option_map (λ x. reduced stack (signs ++ operand x ∷ [])) (term_from t.kind t.text))

-- an operator behind its left operand
abbrev pub taken : Operator → Place → Option Place
taken op (wanted stack signs) = None
taken op (given stack signs) = Some (wanted (Left op ∷ stack) signs)

-- a closing bracket behind what it closes
abbrev pub closed : Place → Option Place
closed (wanted stack signs) = None
closed (given [] signs) = None
closed (given (Tilde ∷ stack) signs) = None
closed (given (Bracket ∷ stack) signs) = Some (reduced stack (signs ++ brackets ∷ []))
closed (given (Left op ∷ stack) signs) = None

-- a token behind an operand, which is an operator, a closing bracket or another; none where the expression ends before it
abbrev pub followed_by : Option Operator → Bool → List Waiting → List Sign → Option Place
followed_by (Some op) closing stack signs = taken op (joined (tightness op) stack signs)
followed_by None true stack signs = closed (joined 1 stack signs)
followed_by None false stack signs = None

abbrev pub followed : Said → List Waiting → List Sign → Option Place
followed t stack signs =
    followed_by (operator_from t.kind t.text) (is_mark_kind t.kind && bytes_eq t.text (codes ")")) stack signs

-- the end: nothing may wait
abbrev pub whole : Place → List Said → Found (List Sign)
whole (wanted stack signs) ts = None
whole (given [] signs) ts = Some (signs, ts)
whole (given (w ∷ stack) signs) ts = None

-- from another place on, or ended where there is none
abbrev pub gone_on : (Place → Found (List Sign)) → Found (List Sign) → Option Place → Found (List Sign)
gone_on rest ending None = ending
gone_on rest ending (Some place) = rest place

-- the expression that goes on from a place, up to the first token that can't belong to it
unfoldable pub rest_at : List Said → Place → Found (List Sign)
rest_at [] (wanted stack signs) = None
rest_at [] (given stack signs) = whole (joined 1 stack signs) []
rest_at (t ∷ ts) (wanted stack signs) = gone_on (rest_at ts) None (opened t stack signs)
rest_at (t ∷ ts) (given stack signs) =
    gone_on (rest_at ts) (whole (joined 1 stack signs) (t ∷ ts)) (followed t stack signs)

unfoldable pub expression_at : List Said → Found Expression
expression_at ts = option_map (λ r. (expression_of r.0, r.1)) (rest_at ts (wanted [] []))
