-- Steps of an expression's reader, by what stands at the front of the tokens.
use Rattle.std.proofs.Common.{◌≡◌, ◌<◌, Bool, true, false, List, [], ◌∷◌, ◌++◌, length, refl, ap, sym, ◌∙◌, arith, Option, Some, None}
use Rattle.std.specs.Prelude.{option_map, codes, ◌&&◌, if◌then◌else◌, Result, Ok, Err, IfOk}
use Rattle.std.specs.Str.{bytes_eq}
use Rattle.eco_tokens.specs.Said.{Said}
use Rattle.eco_tokens.specs.Cells.{is_mark_kind}
use Rattle.eco_vread.specs.declared.tree.Operator.{Operator}
use Rattle.eco_vread.specs.declared.expression.Waiting.{Waiting}
use Rattle.eco_vread.specs.declared.expression.Waiting.TheVariants.{Tilde, Bracket, Left}
use Rattle.eco_vread.specs.declared.error.ParseError.{ParseError}
use Rattle.eco_vread.specs.Syntax.{Term}
use Rattle.eco_vread.specs.Trees.{Gives}
use Rattle.eco_vread.specs.Postfix.{Sign, expression_of, IsPostfix}
use Rattle.eco_vread.specs.Postfix.Sign.{operand}
use Rattle.eco_vread.specs.Grammar.{tightness}
use Rattle.eco_vread.specs.Fronts.{Found, mark_at, term_at, term_from}
use Rattle.eco_vread.specs.Expressions.{Place, rest_at, reduced, joined, whole, taken, closed, followed_by, operator_at, operator_from, expression_at}
use Rattle.eco_vread.specs.Kept.{is_bracket_last}
use Rattle.eco_vread.specs.Expressions.Place.{wanted, given}
use Rattle.eco_vread.proofs.Repeats.{rest_of}
use Rattle.eco_vread.proofs.Readers.{value_or}
use Rattle.eco_vread.proofs.ExpressionTrees.{signs_formed}

-- the step from a place leads to this place, with fewer tokens left
abbrev pub Leads : List Said → Place → List Said → Place → Type 0
Leads ts from us to = (rest_at ts from ≡ rest_at us to) × (length us < length ts)

-- a token that is there or not, by a test
there : (b : Bool) (ts us : List Said) → (if b then Some ts else None) ≡ Some us → (b ≡ true) × (ts ≡ us)
there true ts us h = (refl, cc)
there false ts us h = absurd (cc)

lacking : (b : Bool) (ts : List Said) → (if b then Some ts else None) ≡ None → b ≡ false
lacking true ts h = absurd (cc)
lacking false ts h = refl

-- a value of the first token
valued : {X : Type 0} (o : Option X) (ts us : List Said) (x : X) → option_map {U = X × List Said} (λ i. (i, ts)) o ≡ Some (x, us) → (o ≡ Some x) × (ts ≡ us)
valued None ts us x h = absurd (cc)
valued (Some i) ts us x h = (ap Some (ap (value_or i) h), ap rest_of h)

valueless : {X : Type 0} (o : Option X) (ts : List Said) → option_map {U = X × List Said} (λ i. (i, ts)) o ≡ None → o ≡ None
valueless None ts h = refl
valueless (Some i) ts h = absurd (cc)

pub before_tilde : (ts us : List Said) (stack : List Waiting) (signs : List Sign) (to : Place) → mark_at (codes "~") ts ≡ Some us → to ≡ wanted (Tilde ∷ stack) signs → Leads ts (wanted stack signs) us to
unfolding rest_at mark_at
before_tilde [] us stack signs to h e = absurd (cc)
before_tilde (t ∷ ts) us stack signs to h e =
    let w = there (is_mark_kind t.kind && bytes_eq t.text (codes "~")) ts us h in
    (rw (w.0, w.1, e) refl, omega (arith, ap length w.1))

pub before_bracket : (ts us : List Said) (stack : List Waiting) (signs : List Sign) (to : Place) → mark_at (codes "~") ts ≡ None → mark_at (codes "(") ts ≡ Some us → to ≡ wanted (Bracket ∷ stack) signs → Leads ts (wanted stack signs) us to
unfolding rest_at mark_at
before_bracket [] us stack signs to n h e = absurd (cc)
before_bracket (t ∷ ts) us stack signs to n h e =
    let v = lacking (is_mark_kind t.kind && bytes_eq t.text (codes "~")) ts n in
    let w = there (is_mark_kind t.kind && bytes_eq t.text (codes "(")) ts us h in
    (rw (v, w.0, w.1, e) refl, omega (arith, ap length w.1))

pub before_term : (ts us : List Said) (stack : List Waiting) (signs : List Sign) (x : Term) (to : Place) → mark_at (codes "~") ts ≡ None → mark_at (codes "(") ts ≡ None → term_at ts ≡ Some (x, us) → to ≡ reduced stack (signs ++ operand x ∷ []) → Leads ts (wanted stack signs) us to
unfolding rest_at mark_at term_at
before_term [] us stack signs x to n m h e = absurd (cc)
before_term (t ∷ ts) us stack signs x to n m h e =
    let v = lacking (is_mark_kind t.kind && bytes_eq t.text (codes "~")) ts n in
    let u = lacking (is_mark_kind t.kind && bytes_eq t.text (codes "(")) ts m in
    let w = valued (term_from t.kind t.text) ts us x h in
    (rw (v, u, w.0, w.1, e) refl, omega (arith, ap length w.1))

pub before_none : (ts : List Said) (stack : List Waiting) (signs : List Sign) → mark_at (codes "~") ts ≡ None → mark_at (codes "(") ts ≡ None → term_at ts ≡ None → rest_at ts (wanted stack signs) ≡ None
unfolding rest_at mark_at term_at
before_none [] stack signs n m h = refl
before_none (t ∷ ts) stack signs n m h =
    let v = lacking (is_mark_kind t.kind && bytes_eq t.text (codes "~")) ts n in
    let u = lacking (is_mark_kind t.kind && bytes_eq t.text (codes "(")) ts m in
    let w = valueless (term_from t.kind t.text) ts h in
    rw (v, u, w) refl

pub behind_operator : (ts us : List Said) (stack : List Waiting) (signs : List Sign) (op : Operator) (place : Place) → operator_at ts ≡ Some (op, us) → taken op (joined (tightness op) stack signs) ≡ Some place → Leads ts (given stack signs) us place
unfolding rest_at operator_at
behind_operator [] us stack signs op place h e = absurd (cc)
behind_operator (t ∷ ts) us stack signs op place h e =
    let w = valued (operator_from t.kind t.text) ts us op h in
    (rw (w.0, e, w.1) refl, omega (arith, ap length w.1))

pub behind_bracket : (ts us : List Said) (stack new : List Waiting) (signs next : List Sign) (to : Place) → operator_at ts ≡ None → mark_at (codes ")") ts ≡ Some us → given new next ≡ joined 1 stack signs → closed (given new next) ≡ Some to → Leads ts (given stack signs) us to
unfolding rest_at operator_at mark_at
behind_bracket [] us stack new signs next to n h j e = absurd (cc)
behind_bracket (t ∷ ts) us stack new signs next to n h j e =
    let v = valueless (operator_from t.kind t.text) ts n in
    let w = there (is_mark_kind t.kind && bytes_eq t.text (codes ")")) ts us h in
    (rw (v, w.0, ← j, e, w.1) refl, omega (arith, ap length w.1))

not_closed : (stack : List Waiting) (signs : List Sign) → is_bracket_last stack ≡ false → closed (given stack signs) ≡ None
not_closed [] signs h = refl
not_closed (Tilde ∷ stack) signs h = refl
not_closed (Bracket ∷ stack) signs h = absurd (cc)
not_closed (Left op ∷ stack) signs h = refl

-- a bracket or not, where none can be closed
unclosed : (b : Bool) (stack : List Waiting) (signs : List Sign) → closed (joined 1 stack signs) ≡ None → followed_by None b stack signs ≡ None
unclosed true stack signs e = e
unclosed false stack signs e = refl

pub behind_unclosed : (ts : List Said) (stack new : List Waiting) (signs next : List Sign) → operator_at ts ≡ None → given new next ≡ joined 1 stack signs → is_bracket_last new ≡ false → rest_at ts (given stack signs) ≡ whole (given new next) ts
unfolding rest_at operator_at
behind_unclosed [] stack new signs next n j e = ap (λ p. whole p []) (sym j)
behind_unclosed (t ∷ ts) stack new signs next n j e =
    let v = valueless (operator_from t.kind t.text) ts n in
    let w = unclosed (is_mark_kind t.kind && bytes_eq t.text (codes ")")) stack signs (ap closed (sym j) ∙ not_closed new next e) in
    rw (v, w, ← j) refl

pub behind_other : (ts : List Said) (stack new : List Waiting) (signs next : List Sign) → operator_at ts ≡ None → given new next ≡ joined 1 stack signs → mark_at (codes ")") ts ≡ None → rest_at ts (given stack signs) ≡ whole (given new next) ts
unfolding rest_at operator_at mark_at
behind_other [] stack new signs next n j h = ap (λ p. whole p []) (sym j)
behind_other (t ∷ ts) stack new signs next n j h =
    let v = valueless (operator_from t.kind t.text) ts n in
    let w = lacking (is_mark_kind t.kind && bytes_eq t.text (codes ")")) ts h in
    rw (v, w, ← j) refl

-- What goes on from the last place, where `ts` is the whole text.
pub no_expression : (ts here : List Said) (place : Place) → rest_at here place ≡ rest_at ts (wanted [] []) → rest_at here place ≡ None → expression_at ts ≡ None
unfolding expression_at
no_expression ts here place i e = ap (option_map (λ r. (expression_of r.0, r.1))) (sym i ∙ e)

pub whole_expression : {X : Type 0} (view : X → List Sign × List Said) (result : Result X ParseError) (ts here : List Said) (place : Place) (found : Found (List Sign)) → rest_at here place ≡ rest_at ts (wanted [] []) → rest_at here place ≡ found → Gives view result found → Gives (λ x. (expression_of (view x).0, (view x).1)) result (expression_at ts)
unfolding expression_at
whole_expression view (Ok x) ts here place found i e h = ap (option_map (λ r. (expression_of r.0, r.1))) (sym i ∙ e ∙ h)
whole_expression view (Err error) ts here place found i e h =
    λ fault. ap (option_map (λ r. (expression_of r.0, r.1))) (sym i ∙ e ∙ h fault)

pub whole_formed : {X : Type 0} (view : X → List Sign × List Said) (result : Result X ParseError) (ts here : List Said) (place : Place) (found : Found (List Sign)) → rest_at here place ≡ rest_at ts (wanted [] []) → rest_at here place ≡ found → Gives view result found → IfOk result (λ x. IsPostfix (view x).0)
whole_formed view (Ok x) ts here place found i e h = signs_formed ts (view x).1 (view x).0 (sym i ∙ e ∙ h)
whole_formed view (Err error) ts here place found i e h = tt
