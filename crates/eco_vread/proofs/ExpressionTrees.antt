-- The reader of expressions with trees in place of postfix forms.
use Rattle.std.proofs.Common.{◌≡◌, ℕ, Bool, true, false, List, [], ◌∷◌, ◌++◌, refl, ap, sym, ◌∙◌, append_assoc, Option, Some, None}
use Rattle.std.proofs.lemmas.List.{append-nil}
use Rattle.std.specs.Prelude.{option_map, codes, nat_le, ◌&&◌, if◌then◌else◌}
use Rattle.std.specs.Str.{bytes_eq}
use Rattle.eco_tokens.specs.Said.{Said}
use Rattle.eco_tokens.specs.Cells.{is_mark_kind}
use Rattle.eco_vread.specs.declared.tree.Operator.{Operator}
use Rattle.eco_vread.specs.declared.expression.Waiting.{Waiting}
use Rattle.eco_vread.specs.declared.expression.Waiting.TheVariants.{Tilde, Bracket, Left}
use Rattle.eco_vread.specs.Syntax.{Term, Expression}
use Rattle.eco_vread.specs.Syntax.Expression.{term, inverse, binary, bracketed}
use Rattle.eco_vread.specs.Postfix.{Sign, postfix, made_by, first_of, expression_of, IsPostfix}
use Rattle.eco_vread.specs.Postfix.Sign.{operand, inversion, operation, brackets}
use Rattle.eco_vread.specs.Grammar.{tightness}
use Rattle.eco_vread.specs.Fronts.{Found, term_from}
use Rattle.eco_vread.specs.Expressions.{Place, rest_at, reduced, joined, taken, closed, followed_by, followed, whole, gone_on, operator_from, expression_at}
use Rattle.eco_vread.specs.Expressions.Place.{wanted, given}
use Rattle.eco_vread.proofs.Readers.{value_or}

-- the signs of an expression make it
made_again : (e : Expression) (signs : List Sign) (made : List Expression) → made_by (postfix e ++ signs) made ≡ made_by signs (e ∷ made)
unfolding made_by
made_again (term t) signs made = refl
made_again (inverse e) signs made =
    ap (λ l. made_by l made) (append_assoc (postfix e) (inversion ∷ []) signs) ∙ made_again e (inversion ∷ signs) made
made_again (binary op a b) signs made =
    ap (λ l. made_by l made) (append_assoc (postfix a) (postfix b ++ operation op ∷ []) signs)
    ∙ made_again a ((postfix b ++ operation op ∷ []) ++ signs) made
    ∙ ap (λ l. made_by l (a ∷ made)) (append_assoc (postfix b) (operation op ∷ []) signs)
    ∙ made_again b (operation op ∷ signs) (a ∷ made)
made_again (bracketed e) signs made =
    ap (λ l. made_by l made) (append_assoc (postfix e) (brackets ∷ []) signs) ∙ made_again e (brackets ∷ signs) made

-- an expression's postfix form is read back
pub read_back : (e : Expression) → expression_of (postfix e) ≡ e
unfolding made_by
read_back e = ap (λ l. first_of (made_by l [])) (sym (append-nil (postfix e))) ∙ ap first_of (made_again e [] [])

-- what waits for an operand, with the left operands
pub data Open : Type 0 where
  tilde : Open
  bracket : Open
  left : Operator → Expression → Open

-- where an operand is wanted, or this one stands
pub data Spot : Type 0 where
  want : List Open → Spot
  have : List Open → Expression → Spot

abbrev waiting_of : Open → Waiting
waiting_of tilde = Tilde
waiting_of bracket = Bracket
waiting_of (left op a) = Left op

abbrev marks : List Open → List Waiting
marks [] = []
marks (o ∷ stack) = waiting_of o ∷ marks stack

-- the signs of the left operands
abbrev signs_before : List Open → List Sign
signs_before [] = []
signs_before (tilde ∷ stack) = signs_before stack
signs_before (bracket ∷ stack) = signs_before stack
signs_before (left op a ∷ stack) = signs_before stack ++ postfix a

-- the place that a spot is
abbrev place : Spot → Place
place (want stack) = wanted (marks stack) (signs_before stack)
place (have stack e) = given (marks stack) (signs_before stack ++ postfix e)

-- The functions of the reader, with trees.
abbrev pub reduce : List Open → Expression → Spot
reduce [] e = have [] e
reduce (tilde ∷ stack) e = reduce stack (inverse e)
reduce (bracket ∷ stack) e = have (bracket ∷ stack) e
reduce (left op a ∷ stack) e = have (left op a ∷ stack) e

abbrev pub join : ℕ → List Open → Expression → Spot
join least [] e = have [] e
join least (tilde ∷ stack) e = have (tilde ∷ stack) e
join least (bracket ∷ stack) e = have (bracket ∷ stack) e
join least (left op a ∷ stack) e =
    if nat_le least (tightness op) then join least stack (binary op a e) else have (left op a ∷ stack) e

abbrev pub join_at : ℕ → Spot → Spot
join_at least (want stack) = want stack
join_at least (have stack e) = join least stack e

abbrev pub enter : Said → List Open → Option Spot
enter t stack =
    if is_mark_kind t.kind && bytes_eq t.text (codes "~") then Some (want (tilde ∷ stack))
    else (if is_mark_kind t.kind && bytes_eq t.text (codes "(") then Some (want (bracket ∷ stack))
    else option_map (λ x. reduce stack (term x)) (term_from t.kind t.text))

abbrev pub take_left : Operator → Spot → Option Spot
take_left op (want stack) = None
take_left op (have stack e) = Some (want (left op e ∷ stack))

abbrev pub close : Spot → Option Spot
close (want stack) = None
close (have [] e) = None
close (have (tilde ∷ stack) e) = None
close (have (bracket ∷ stack) e) = Some (reduce stack (bracketed e))
close (have (left op a ∷ stack) e) = None

abbrev pub follow_by : Option Operator → Bool → List Open → Expression → Option Spot
follow_by (Some op) closing stack e = take_left op (join (tightness op) stack e)
follow_by None true stack e = close (join 1 stack e)
follow_by None false stack e = None

abbrev pub step : Said → Spot → Option Spot
step t (want stack) = enter t stack
step t (have stack e) =
    follow_by (operator_from t.kind t.text) (is_mark_kind t.kind && bytes_eq t.text (codes ")")) stack e

abbrev pub finish : Spot → List Said → Found Expression
finish (want stack) ts = None
finish (have [] e) ts = Some (e, ts)
finish (have (o ∷ stack) e) ts = None

abbrev pub go_on : (Spot → Found Expression) → Found Expression → Option Spot → Found Expression
go_on rest ending None = ending
go_on rest ending (Some p) = rest p

abbrev pub read : List Said → Spot → Found Expression
read [] p = finish (join_at 1 p) []
read (t ∷ ts) p = go_on (read ts) (finish (join_at 1 p) (t ∷ ts)) (step t p)

-- They are those of the reader.
reduce_same : (stack : List Open) (e : Expression) → reduced (marks stack) (signs_before stack ++ postfix e) ≡ place (reduce stack e)
unfolding reduced
reduce_same [] e = refl
reduce_same (tilde ∷ stack) e =
    ap (λ l. reduced (marks stack) l) (append_assoc (signs_before stack) (postfix e) (inversion ∷ [])) ∙ reduce_same stack (inverse e)
reduce_same (bracket ∷ stack) e = refl
reduce_same (left op a ∷ stack) e = refl

-- an operator behind its operands
joined_signs : (s a b : List Sign) (x : Sign) → ((s ++ a) ++ b) ++ x ∷ [] ≡ s ++ (a ++ (b ++ x ∷ []))
joined_signs s a b x = simp append_assoc

join_case : (tight : Bool) (l r : Place) (p q : Spot) → l ≡ place p → r ≡ place q → (if tight then l else r) ≡ place (if tight then p else q)
join_case true l r p q e f = e
join_case false l r p q e f = f

join_same : (least : ℕ) (stack : List Open) (e : Expression) → joined least (marks stack) (signs_before stack ++ postfix e) ≡ place (join least stack e)
unfolding joined
join_same least [] e = refl
join_same least (tilde ∷ stack) e = refl
join_same least (bracket ∷ stack) e = refl
join_same least (left op a ∷ stack) e =
    join_case (nat_le least (tightness op)) _ _ (join least stack (binary op a e)) (have (left op a ∷ stack) e) (ap (λ l. joined least (marks stack) l) (joined_signs (signs_before stack) (postfix a) (postfix e) (operation op)) ∙ join_same least stack (binary op a e)) refl

-- a value that is there or not
enter_same : (b c : Bool) (o : Option Term) (stack : List Open) → (if b then Some (wanted (Tilde ∷ marks stack) (signs_before stack)) else (if c then Some (wanted (Bracket ∷ marks stack) (signs_before stack)) else option_map (λ x. reduced (marks stack) (signs_before stack ++ operand x ∷ [])) o)) ≡ option_map place (if b then Some (want (tilde ∷ stack)) else (if c then Some (want (bracket ∷ stack)) else option_map (λ x. reduce stack (term x)) o))
enter_same true c o stack = refl
enter_same false true o stack = refl
enter_same false false None stack = refl
enter_same false false (Some x) stack = ap Some (reduce_same stack (term x))

take_same : (op : Operator) (p : Spot) → taken op (place p) ≡ option_map place (take_left op p)
take_same op (want stack) = refl
take_same op (have stack e) = refl

close_same : (p : Spot) → closed (place p) ≡ option_map place (close p)
close_same (want stack) = refl
close_same (have [] e) = refl
close_same (have (tilde ∷ stack) e) = refl
close_same (have (bracket ∷ stack) e) =
    ap Some (ap (λ l. reduced (marks stack) l) (append_assoc (signs_before stack) (postfix e) (brackets ∷ [])) ∙ reduce_same stack (bracketed e))
close_same (have (left op a ∷ stack) e) = refl

follow_same : (o : Option Operator) (closing : Bool) (stack : List Open) (e : Expression) → followed_by o closing (marks stack) (signs_before stack ++ postfix e) ≡ option_map place (follow_by o closing stack e)
follow_same (Some op) closing stack e = ap (taken op) (join_same (tightness op) stack e) ∙ take_same op (join (tightness op) stack e)
follow_same None true stack e = ap closed (join_same 1 stack e) ∙ close_same (join 1 stack e)
follow_same None false stack e = refl

-- what is found, in postfix form
abbrev post : Found Expression → Found (List Sign)
post found = option_map (λ r. (postfix r.0, r.1)) found

finish_same : (p : Spot) (ts : List Said) → whole (place p) ts ≡ post (finish p ts)
finish_same (want stack) ts = refl
finish_same (have [] e) ts = refl
finish_same (have (o ∷ stack) e) ts = refl

go_same : (ts : List Said) → ((p : Spot) → rest_at ts (place p) ≡ post (read ts p)) → (o : Option Spot) (ending : Found Expression) → gone_on (rest_at ts) (post ending) (option_map place o) ≡ post (go_on (read ts) ending o)
go_same ts h None ending = refl
go_same ts h (Some p) ending = h p

read_same : (ts : List Said) (p : Spot) → rest_at ts (place p) ≡ post (read ts p)
unfolding rest_at
read_same [] (want stack) = refl
read_same [] (have stack e) = ap (λ q. whole q []) (join_same 1 stack e) ∙ finish_same (join 1 stack e) []
read_same (t ∷ ts) (want stack) =
    ap (gone_on (rest_at ts) None) (enter_same (is_mark_kind t.kind && bytes_eq t.text (codes "~")) (is_mark_kind t.kind && bytes_eq t.text (codes "(")) (term_from t.kind t.text) stack)
    ∙ go_same ts (read_same ts) (enter t stack) None
read_same (t ∷ ts) (have stack e) =
    ap (λ w. gone_on (rest_at ts) w (followed t (marks stack) (signs_before stack ++ postfix e))) (ap (λ q. whole q (t ∷ ts)) (join_same 1 stack e) ∙ finish_same (join 1 stack e) (t ∷ ts))
    ∙ ap (gone_on (rest_at ts) (post (finish (join 1 stack e) (t ∷ ts)))) (follow_same (operator_from t.kind t.text) (is_mark_kind t.kind && bytes_eq t.text (codes ")")) stack e)
    ∙ go_same ts (read_same ts) (step t (have stack e)) (finish (join 1 stack e) (t ∷ ts))

-- what is found, from its postfix form
back_again : (found : Found Expression) → option_map {U = Expression × List Said} (λ r. (expression_of r.0, r.1)) (post found) ≡ found
back_again None = refl
back_again (Some found) = ap (λ e. Some (e, found.1)) (read_back found.0)

-- the expression is the one that is read with trees
pub expression_read : (ts : List Said) → expression_at ts ≡ read ts (want [])
unfolding expression_at
expression_read ts = ap (option_map (λ r. (expression_of r.0, r.1))) (read_same ts (want [])) ∙ back_again (read ts (want []))

post_formed : (found : Found Expression) (signs : List Sign) (us : List Said) → post found ≡ Some (signs, us) → IsPostfix signs
post_formed None signs us h = absurd (cc)
post_formed (Some found) signs us h =
    let e : postfix found.0 ≡ signs = ap (value_or (postfix found.0)) h in
    sym e ∙ ap postfix (sym (read_back found.0) ∙ ap expression_of e)

-- what is found is a postfix form
pub signs_formed : (ts us : List Said) (signs : List Sign) → rest_at ts (wanted [] []) ≡ Some (signs, us) → IsPostfix signs
signs_formed ts us signs h = post_formed (read ts (want [])) signs us (sym (read_same ts (want [])) ∙ h)
