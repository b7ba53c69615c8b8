-- Expressions in postfix form, in which an operator, or a pair of brackets, stands behind what it is for.
use Rattle.std.specs.Prelude.{◌≡◌, Bool, true, false, List, [], ◌∷◌, ◌++◌}
use Rattle.eco_vread.specs.declared.tree.Operator.{Operator}
use Rattle.eco_vread.specs.declared.tree.Symbol.{Symbol}
use Rattle.eco_vread.specs.declared.tree.Symbol.TheVariants.{Term as TermSymbol, Inverse, Binary, Bracketed}
use Rattle.eco_vread.specs.Syntax.{Term, Expression}
use Rattle.eco_vread.specs.Syntax.Term.{low}
use Rattle.eco_vread.specs.Syntax.Expression.{term, inverse, binary, bracketed}
use Rattle.eco_vread.specs.Views.{term_of}

-- a part of an expression in postfix form
pub data Sign : Type 0 where
  operand : Term → Sign
  inversion : Sign
  operation : Operator → Sign
  brackets : Sign

abbrev pub sign_of : Symbol → Sign
sign_of (TermSymbol t) = operand (term_of t)
sign_of Inverse = inversion
sign_of (Binary op) = operation op
sign_of Bracketed = brackets

-- an operator, and no operand or pair of brackets
abbrev pub is_operator : Sign → Bool
is_operator (operand t) = false
is_operator inversion = true
is_operator (operation op) = true
is_operator brackets = false

-- an expression's postfix form
abbrev pub postfix : Expression → List Sign
postfix (term t) = operand t ∷ []
postfix (inverse e) = postfix e ++ inversion ∷ []
postfix (binary op a b) = postfix a ++ (postfix b ++ operation op ∷ [])
postfix (bracketed e) = postfix e ++ brackets ∷ []

-- the expressions that signs make of those that are there, the last one first
unfoldable pub made_by : List Sign → List Expression → List Expression
made_by [] made = made
made_by (operand t ∷ signs) made = made_by signs (term t ∷ made)
made_by (inversion ∷ signs) (e ∷ made) = made_by signs (inverse e ∷ made)
made_by (operation op ∷ signs) (b ∷ a ∷ made) = made_by signs (binary op a b ∷ made)
made_by (brackets ∷ signs) (e ∷ made) = made_by signs (bracketed e ∷ made)
made_by (inversion ∷ signs) [] = []
made_by (operation op ∷ signs) [] = []
made_by (operation op ∷ signs) (b ∷ []) = []
made_by (brackets ∷ signs) [] = []

abbrev pub first_of : List Expression → Expression
first_of [] = term low
first_of (e ∷ made) = e

-- the expression of a postfix form
abbrev pub expression_of : List Sign → Expression
expression_of signs = first_of (made_by signs [])

-- the signs are a postfix form
abbrev pub IsPostfix : List Sign → Type 0
IsPostfix signs = signs ≡ postfix (expression_of signs)
