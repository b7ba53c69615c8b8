-- What the code that reads an expression keeps of a place in it.
use Rattle.std.specs.Prelude.{◌≡◌, Bool, true, false, List, [], ◌∷◌, map, reverse, Option, Some, None, Result, Ok, Err}
use Rattle.eco_tokens.specs.Said.{Said}
use Rattle.eco_vread.specs.declared.tree.Operator.{Operator}
use Rattle.eco_vread.specs.declared.expression.Waiting.{Waiting}
use Rattle.eco_vread.specs.declared.expression.Waiting.TheVariants.{Tilde, Bracket, Left}
use Rattle.eco_vread.specs.declared.expression.Reading.{Reading}
use Rattle.eco_vread.specs.declared.cursor.Cursor.{Cursor}
use Rattle.eco_vread.specs.declared.error.ParseError.{ParseError}
use Rattle.eco_vread.specs.Postfix.{Sign, sign_of}
use Rattle.eco_vread.specs.Trees.{left, is_error}
use Rattle.eco_vread.specs.Expressions.{Place, rest_at, whole}
use Rattle.eco_vread.specs.Expressions.Place.{wanted, given}

-- what waits, the last one first, and the postfix form so far
abbrev pub stack_of : Reading → List Waiting
stack_of r = reverse r.waiting.items

abbrev pub signs_of : Reading → List Sign
signs_of r = map sign_of r.value.items

-- the place, where an operand stands or is wanted
abbrev pub place_of : Bool → Reading → Place
place_of true r = given (stack_of r) (signs_of r)
place_of false r = wanted (stack_of r) (signs_of r)

-- what waits last
abbrev pub last_waiting : List Waiting → Option Waiting
last_waiting [] = None
last_waiting (w ∷ stack) = Some w

abbrev pub is_tilde_last : List Waiting → Bool
is_tilde_last [] = false
is_tilde_last (Tilde ∷ stack) = true
is_tilde_last (Bracket ∷ stack) = false
is_tilde_last (Left op ∷ stack) = false

abbrev pub is_bracket_last : List Waiting → Bool
is_bracket_last [] = false
is_bracket_last (Tilde ∷ stack) = false
is_bracket_last (Bracket ∷ stack) = true
is_bracket_last (Left op ∷ stack) = false

abbrev pub last_operator : List Waiting → Option Operator
last_operator [] = None
last_operator (Tilde ∷ stack) = None
last_operator (Bracket ∷ stack) = None
last_operator (Left op ∷ stack) = Some op

-- from a place before these tokens, the expression goes on from the place and the tokens of the result
abbrev pub GoesOn : Place → List Said → Reading → Result (Bool × Cursor) ParseError → Type 0
GoesOn place ts new (Ok found) = rest_at ts place ≡ rest_at (left found.1) (place_of found.0 new)
GoesOn place ts new (Err e) = is_error e ≡ true → rest_at ts place ≡ None

-- the same, or it ends before these tokens
abbrev pub GoesOnOrEnds : Place → List Said → Reading → Result (Option (Bool × Cursor)) ParseError → Type 0
GoesOnOrEnds place ts new (Ok (Some found)) = rest_at ts place ≡ rest_at (left found.1) (place_of found.0 new)
GoesOnOrEnds place ts new (Ok None) = rest_at ts place ≡ whole (given (stack_of new) (signs_of new)) ts
GoesOnOrEnds place ts new (Err e) = is_error e ≡ true → rest_at ts place ≡ None
