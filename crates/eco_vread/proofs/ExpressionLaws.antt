-- The reader of expressions and the grammar: what is read is what is written there, grouped as operators bind, and
-- what is written so is read again.
use Rattle.std.proofs.Common.{◌≡◌, ℕ, ◌<◌, ◌≤◌, Bool, true, false, List, [], ◌∷◌, ◌++◌, length, refl, ap, sym, ◌∙◌, arith, subst, append_assoc, length-append, Option, Some, None}
use Rattle.std.proofs.lemmas.Bool.Decides.{nat_tests}
use Rattle.std.proofs.lemmas.List.{append-nil}
use Rattle.std.proofs.lemmas.Slice.Eq.{bytes_eq-Decides}
use Rattle.std.specs.Prelude.{option_map, codes, nat_le, nat_lt, ◌==◌, ◌&&◌, ◌||◌, if◌then◌else◌}
use Rattle.std.specs.Str.{bytes_eq}
use Rattle.eco_lists.proofs.Tests.{both}
use Rattle.eco_tokens.specs.declared.TokenKind.{TokenKind}
use Rattle.eco_tokens.specs.declared.TokenKind.TheVariants.{Simple, Word, Escaped, Constant, Mark}
use Rattle.eco_tokens.specs.Said.{Said}
use Rattle.eco_tokens.specs.Cells.{is_mark_kind}
use Rattle.eco_vread.specs.declared.tree.Operator.{Operator}
use Rattle.eco_vread.specs.declared.tree.Operator.TheVariants.{Ampersand, Caret, TildeCaret, CaretTilde, Bar}
use Rattle.eco_vread.specs.Syntax.{Term, Expression}
use Rattle.eco_vread.specs.Syntax.Term.{low, high, net}
use Rattle.eco_vread.specs.Syntax.Expression.{term, inverse, binary, bracketed}
use Rattle.eco_vread.specs.Grammar.{mark, operator_mark, spell_term, spell_expression, tightness, hold, is_grouped}
use Rattle.eco_vread.specs.Fronts.{term_at, term_from}
use Rattle.eco_vread.specs.Expressions.{operator_of, operator_from, expression_at}
use Rattle.eco_vread.proofs.Singles.{term_reader, pair_takes, term_some}
use Rattle.eco_vread.proofs.ExpressionTrees.{Open, Spot, reduce, join, join_at, take_left, close, follow_by, step, finish, go_on, read, expression_read}
use Rattle.eco_vread.proofs.ExpressionTrees.Open.{tilde, bracket, left}
use Rattle.eco_vread.proofs.ExpressionTrees.Spot.{want, have}

-- how tightly operators bind
binds : (op : Operator) → (1 ≤ tightness op) × (tightness op < 4)
binds Ampersand = (omega arith, omega arith)
binds Caret = (omega arith, omega arith)
binds TildeCaret = (omega arith, omega arith)
binds CaretTilde = (omega arith, omega arith)
binds Bar = (omega arith, omega arith)

holds : (e : Expression) → 1 ≤ hold e
holds (term t) = omega arith
holds (inverse e) = omega arith
holds (binary op a b) = (binds op).0
holds (bracketed e) = omega arith

-- What stands before a place is written so.
spelled_before : List Open → List Said
spelled_before [] = []
spelled_before (tilde ∷ stack) = spelled_before stack ++ mark (codes "~") ∷ []
spelled_before (bracket ∷ stack) = spelled_before stack ++ mark (codes "(") ∷ []
spelled_before (left op a ∷ stack) = spelled_before stack ++ (spell_expression a ++ mark (operator_mark op) ∷ [])

spelled : Spot → List Said
spelled (want stack) = spelled_before stack
spelled (have stack e) = spelled_before stack ++ spell_expression e

reduce_spelled : (stack : List Open) (e : Expression) → spelled (reduce stack e) ≡ spelled_before stack ++ spell_expression e
unfolding spelled_before spelled
reduce_spelled [] e = refl
reduce_spelled (tilde ∷ stack) e =
    reduce_spelled stack (inverse e) ∙ sym (append_assoc (spelled_before stack) (mark (codes "~") ∷ []) (spell_expression e))
reduce_spelled (bracket ∷ stack) e = refl
reduce_spelled (left op a ∷ stack) e = refl

join_case : (tight : Bool) (p q : Spot) (l : List Said) → spelled p ≡ l → spelled q ≡ l → spelled (if tight then p else q) ≡ l
join_case true p q l e f = e
join_case false p q l e f = f

operator_apart : (s a b : List Said) (x : Said) → s ++ (a ++ (x ∷ b)) ≡ (s ++ (a ++ x ∷ [])) ++ b
operator_apart s a b x = simp append_assoc

join_spelled : (least : ℕ) (stack : List Open) (e : Expression) → spelled (join least stack e) ≡ spelled_before stack ++ spell_expression e
unfolding spelled_before spelled
join_spelled least [] e = refl
join_spelled least (tilde ∷ stack) e = refl
join_spelled least (bracket ∷ stack) e = refl
join_spelled least (left op a ∷ stack) e =
    join_case (nat_le least (tightness op)) (join least stack (binary op a e)) (have (left op a ∷ stack) e) _ (join_spelled least stack (binary op a e) ∙ operator_apart (spelled_before stack) (spell_expression a) (spell_expression e) (mark (operator_mark op))) refl

-- the mark that a token is
is_mark : (kind : TokenKind) (text wanted : List ℕ) → (is_mark_kind kind && bytes_eq text wanted) ≡ true → record { kind = kind; text = text } ≡ mark wanted
is_mark Mark text wanted h = ap mark ((bytes_eq-Decides text wanted).0 h)
is_mark Simple text wanted h = absurd (cc)
is_mark Word text wanted h = absurd (cc)
is_mark Escaped text wanted h = absurd (cc)
is_mark Constant text wanted h = absurd (cc)

-- a value that stands by a text, or another
named_by : (same : Bool) (text wanted : List ℕ) (k op : Operator) (o : Option Operator) → bytes_eq text wanted ≡ same → wanted ≡ operator_mark k → (o ≡ Some op → text ≡ operator_mark op) → (if same then Some k else o) ≡ Some op → text ≡ operator_mark op
named_by true text wanted k op o e m f h =
    let q : k ≡ op = cc in (bytes_eq-Decides text wanted).0 e ∙ m ∙ ap operator_mark q
named_by false text wanted k op o e m f h = f h

operator_text : (text : List ℕ) (op : Operator) → operator_of text ≡ Some op → text ≡ operator_mark op
unfolding operator_of
operator_text text op h =
    named_by _ text (codes "&") Ampersand op _ refl refl
    (named_by _ text (codes "^") Caret op _ refl refl
    (named_by _ text (codes "~^") TildeCaret op _ refl refl
    (named_by _ text (codes "^~") CaretTilde op _ refl refl
    (named_by _ text (codes "|") Bar op None refl refl (λ n. absurd (cc)))))) h

operator_token : (kind : TokenKind) (text : List ℕ) (op : Operator) → operator_from kind text ≡ Some op → record { kind = kind; text = text } ≡ mark (operator_mark op)
operator_token Mark text op h = ap mark (operator_text text op h)
operator_token Simple text op h = absurd (cc)
operator_token Word text op h = absurd (cc)
operator_token Escaped text op h = absurd (cc)
operator_token Constant text op h = absurd (cc)

-- an operand's token
term_token : (t : Said) (x : Term) → term_from t.kind t.text ≡ Some x → t ∷ [] ≡ spell_term x
unfolding term_at
term_token t x h =
    (term_reader.takes (t ∷ []) [] x (ap (option_map {U = Term × List Said} (λ i. (i, []))) h)).0 ∙ append-nil (spell_term x)

-- What waits last binds less tightly; nothing may bind tighter than a `~`.
abbrev Looser : List Open → ℕ → Type 0
Looser [] tight = Unit {0}
Looser (tilde ∷ stack) tight = ⊥
Looser (bracket ∷ stack) tight = Unit {0}
Looser (left op a ∷ stack) tight = tightness op < tight

-- left operands are grouped, and operators bind ever tighter up to a bracket
abbrev Sound : List Open → Type 0
Sound [] = Unit {0}
Sound (tilde ∷ stack) = Sound stack
Sound (bracket ∷ stack) = Sound stack
Sound (left op a ∷ stack) = Sound stack × (is_grouped a ≡ true) × (tightness op ≤ hold a) × Looser stack (tightness op)

-- the operand that stands there is grouped and ends no operator
abbrev Fit : Spot → Type 0
Fit (want stack) = Sound stack
Fit (have stack e) = Sound stack × (is_grouped e ≡ true) × (hold e ≡ 4) × Looser stack 4

-- the operand that stands there can be the left one of an operator that binds so tightly
abbrev Ready : ℕ → Spot → Type 0
Ready least (want stack) = ⊥
Ready least (have stack e) = Sound stack × (is_grouped e ≡ true) × (least ≤ hold e) × Looser stack least

inverse_grouped : (e : Expression) → is_grouped e ≡ true → hold e ≡ 4 → is_grouped (inverse e) ≡ true
inverse_grouped e g h = rw (g, h) refl

binary_grouped : (op : Operator) (a b : Expression) → is_grouped a ≡ true → is_grouped b ≡ true → tightness op ≤ hold a → tightness op < hold b → is_grouped (binary op a b) ≡ true
binary_grouped op a b g h l t =
    let m : nat_le (tightness op) (hold a) ≡ true = grind (arith, nat_tests) in
    let n : nat_lt (tightness op) (hold b) ≡ true = grind (arith, nat_tests) in
    rw (g, h, m, n) refl

reduce_fit : (stack : List Open) (e : Expression) → Sound stack → is_grouped e ≡ true → hold e ≡ 4 → Fit (reduce stack e)
reduce_fit [] e s g h = (s, g, h, tt)
reduce_fit (tilde ∷ stack) e s g h = reduce_fit stack (inverse e) s (inverse_grouped e g h) refl
reduce_fit (bracket ∷ stack) e s g h = (s, g, h, tt)
reduce_fit (left op a ∷ stack) e s g h = (s, g, h, (binds op).1)

ready_case : (tight : Bool) (least : ℕ) (op : Operator) (p q : Spot) → nat_le least (tightness op) ≡ tight → (least ≤ tightness op → Ready least p) → (tightness op < least → Ready least q) → Ready least (if tight then p else q)
ready_case true least op p q e f g = f (grind (arith, nat_tests))
ready_case false least op p q e f g = g (grind (arith, nat_tests))

join_ready : (least : ℕ) (stack : List Open) (e : Expression) → Sound stack → is_grouped e ≡ true → least ≤ hold e → Looser stack (hold e) → Ready least (join least stack e)
join_ready least [] e s g h l = (s, g, h, tt)
join_ready least (tilde ∷ stack) e s g h l = absurd l
join_ready least (bracket ∷ stack) e s g h l = (s, g, h, tt)
join_ready least (left op a ∷ stack) e s g h l =
    ready_case (nat_le least (tightness op)) least op (join least stack (binary op a e)) (have (left op a ∷ stack) e) refl (λ t. join_ready least stack (binary op a e) s.0 (binary_grouped op a e s.1 g s.2 l) t s.3) (λ t. (s, g, h, t))

looser_at : (stack : List Open) (tight : ℕ) → tight ≡ 4 → Looser stack 4 → Looser stack tight
looser_at [] tight e l = tt
looser_at (tilde ∷ stack) tight e l = l
looser_at (bracket ∷ stack) tight e l = tt
looser_at (left op a ∷ stack) tight e l = omega (arith, l, e)

-- behind an operand, for an operator that binds so tightly
behind_ready : (least : ℕ) (stack : List Open) (e : Expression) → least < 4 → Fit (have stack e) → Ready least (join least stack e)
behind_ready least stack e l f = join_ready least stack e f.0 f.1 (omega (arith, f.2)) (looser_at stack (hold e) f.2 f.3)

-- A step: the token stands behind what was spelled before, and the place is fit again.
abbrev Stepped : Said → List Said → Spot → Type 0
Stepped t before p = (spelled p ≡ before ++ t ∷ []) × Fit p

enter_case : (b c : Bool) (o : Option Term) (t : Said) (stack : List Open) (p : Spot) → Sound stack → (b ≡ true → t ≡ mark (codes "~")) → (c ≡ true → t ≡ mark (codes "(")) → ((x : Term) → o ≡ Some x → t ∷ [] ≡ spell_term x) → (if b then Some (want (tilde ∷ stack)) else (if c then Some (want (bracket ∷ stack)) else option_map (λ x. reduce stack (term x)) o)) ≡ Some p → Stepped t (spelled_before stack) p
unfolding spelled_before spelled
enter_case true c o t stack p s f g k h =
    let q : want (tilde ∷ stack) ≡ p = cc in
    subst (Stepped t (spelled_before stack)) q (ap (λ u. spelled_before stack ++ u ∷ []) (sym (f refl)), s)
enter_case false true o t stack p s f g k h =
    let q : want (bracket ∷ stack) ≡ p = cc in
    subst (Stepped t (spelled_before stack)) q (ap (λ u. spelled_before stack ++ u ∷ []) (sym (g refl)), s)
enter_case false false None t stack p s f g k h = absurd (cc)
enter_case false false (Some x) t stack p s f g k h =
    let q : reduce stack (term x) ≡ p = cc in
    subst (Stepped t (spelled_before stack)) q (reduce_spelled stack (term x) ∙ ap (λ l. spelled_before stack ++ l) (sym (k x refl)), reduce_fit stack (term x) s refl refl)

take_case : (op : Operator) (before : List Said) (q p : Spot) → spelled q ≡ before → Ready (tightness op) q → take_left op q ≡ Some p → Stepped (mark (operator_mark op)) before p
unfolding spelled_before spelled
take_case op before (want stack) p e r h = absurd r
take_case op before (have stack a) p e r h =
    let q : want (left op a ∷ stack) ≡ p = cc in
    subst (Stepped (mark (operator_mark op)) before) q (sym (append_assoc (spelled_before stack) (spell_expression a) (mark (operator_mark op) ∷ [])) ∙ ap (λ l. l ++ mark (operator_mark op) ∷ []) e, r)

bracket_apart : (s a : List Said) (x y : Said) → s ++ (x ∷ (a ++ y ∷ [])) ≡ ((s ++ x ∷ []) ++ a) ++ y ∷ []
bracket_apart s a x y = simp append_assoc

close_case : (before : List Said) (q p : Spot) → spelled q ≡ before → Ready 1 q → close q ≡ Some p → Stepped (mark (codes ")")) before p
unfolding spelled_before spelled
close_case before (want stack) p e r h = absurd r
close_case before (have [] a) p e r h = absurd (cc)
close_case before (have (tilde ∷ stack) a) p e r h = absurd (cc)
close_case before (have (left op b ∷ stack) a) p e r h = absurd (cc)
close_case before (have (bracket ∷ stack) a) p e r h =
    let q : reduce stack (bracketed a) ≡ p = cc in
    subst (Stepped (mark (codes ")")) before) q (reduce_spelled stack (bracketed a) ∙ bracket_apart (spelled_before stack) (spell_expression a) (mark (codes "(")) (mark (codes ")")) ∙ ap (λ l. l ++ mark (codes ")") ∷ []) e, reduce_fit stack (bracketed a) r.0 r.1 refl)

follow_case : (o : Option Operator) (closing : Bool) (t : Said) (stack : List Open) (e : Expression) (p : Spot) → Fit (have stack e) → ((op : Operator) → o ≡ Some op → t ≡ mark (operator_mark op)) → (closing ≡ true → t ≡ mark (codes ")")) → follow_by o closing stack e ≡ Some p → Stepped t (spelled (have stack e)) p
unfolding spelled
follow_case (Some op) closing t stack e p f g k h =
    subst (λ u. Stepped u (spelled (have stack e)) p) (sym (g op refl)) (take_case op (spelled (have stack e)) (join (tightness op) stack e) p (join_spelled (tightness op) stack e) (behind_ready (tightness op) stack e (binds op).1 f) h)
follow_case None true t stack e p f g k h =
    subst (λ u. Stepped u (spelled (have stack e)) p) (sym (k refl)) (close_case (spelled (have stack e)) (join 1 stack e) p (join_spelled 1 stack e) (behind_ready 1 stack e (omega arith) f) h)
follow_case None false t stack e p f g k h = absurd (cc)

step_takes : (t : Said) (p next : Spot) → Fit p → step t p ≡ Some next → Stepped t (spelled p) next
unfolding spelled
step_takes t (want stack) next f h =
    enter_case (is_mark_kind t.kind && bytes_eq t.text (codes "~")) (is_mark_kind t.kind && bytes_eq t.text (codes "(")) (term_from t.kind t.text) t stack next f (is_mark t.kind t.text (codes "~")) (is_mark t.kind t.text (codes "(")) (term_token t) h
step_takes t (have stack e) next f h =
    follow_case (operator_from t.kind t.text) (is_mark_kind t.kind && bytes_eq t.text (codes ")")) t stack e next f (operator_token t.kind t.text) (is_mark t.kind t.text (codes ")")) h

-- what is found is what was spelled up to there, and grouped
abbrev Taken : List Said → List Said → List Said → Expression → Type 0
Taken before ts us e = (before ++ ts ≡ spell_expression e ++ us) × (is_grouped e ≡ true)

finish_case : (q : Spot) (before ts us : List Said) (e : Expression) → spelled q ≡ before → Ready 1 q → finish q ts ≡ Some (e, us) → Taken before ts us e
unfolding spelled_before spelled
finish_case (want stack) before ts us e s r h = absurd r
finish_case (have [] a) before ts us e s r h =
    let w = pair_takes spell_expression is_grouped a e ts us r.1 h in (ap (λ l. l ++ ts) (sym s) ∙ w.0, w.1)
finish_case (have (o ∷ stack) a) before ts us e s r h = absurd (cc)

end_takes : (p : Spot) (ts us : List Said) (e : Expression) → Fit p → finish (join_at 1 p) ts ≡ Some (e, us) → Taken (spelled p) ts us e
unfolding spelled
end_takes (want stack) ts us e f h = absurd (cc)
end_takes (have stack a) ts us e f h =
    finish_case (join 1 stack a) (spelled (have stack a)) ts us e (join_spelled 1 stack a) (behind_ready 1 stack a (omega arith) f) h

go_takes : (o : Option Spot) (p : Spot) (t : Said) (ts us : List Said) (e : Expression) → Fit p → ((next : Spot) → o ≡ Some next → Stepped t (spelled p) next) → ((next : Spot) → Fit next → read ts next ≡ Some (e, us) → Taken (spelled next) ts us e) → go_on (read ts) (finish (join_at 1 p) (t ∷ ts)) o ≡ Some (e, us) → Taken (spelled p) (t ∷ ts) us e
go_takes None p t ts us e f g k h = end_takes p (t ∷ ts) us e f h
go_takes (Some next) p t ts us e f g k h =
    let w = g next refl in
    let v = k next w.1 h in
    (sym (append_assoc (spelled p) (t ∷ []) ts) ∙ ap (λ l. l ++ ts) (sym w.0) ∙ v.0, v.1)

read_takes : (ts us : List Said) (p : Spot) (e : Expression) → Fit p → read ts p ≡ Some (e, us) → Taken (spelled p) ts us e
read_takes [] us p e f h = end_takes p [] us e f h
read_takes (t ∷ ts) us p e f h =
    go_takes (step t p) p t ts us e f (λ next k. step_takes t p next f k) (λ next g k. read_takes ts us next e g k) h

pub expression_takes : (ts us : List Said) (e : Expression) → expression_at ts ≡ Some (e, us) → (ts ≡ spell_expression e ++ us) × (is_grouped e ≡ true)
unfolding spelled_before spelled
expression_takes ts us e h = read_takes ts us (want []) e tt (sym (expression_read ts) ∙ h)

-- an expression has a token
pub expression_some : (e : Expression) → 1 ≤ length (spell_expression e)
expression_some (term x) = term_some x
expression_some (inverse e) = omega arith
expression_some (binary op a b) =
    omega (arith, expression_some a, length-append (spell_expression a) (mark (operator_mark op) ∷ spell_expression b))
expression_some (bracketed e) = omega arith

-- Reading what is written: an operand that holds so tightly can stand behind what waits.
abbrev Admits : List Open → ℕ → Type 0
Admits [] tight = Unit {0}
Admits (tilde ∷ stack) tight = tight ≡ 4
Admits (bracket ∷ stack) tight = Unit {0}
Admits (left op a ∷ stack) tight = tightness op < tight

admits_more : (stack : List Open) (tight more : ℕ) → Admits stack tight → tight ≤ more → tight < 4 → Admits stack more
admits_more [] tight more a l t = tt
admits_more (tilde ∷ stack) tight more a l t = absurd (omega (arith, a))
admits_more (bracket ∷ stack) tight more a l t = tt
admits_more (left op b ∷ stack) tight more a l t = omega (arith, a)

-- where a spot is behind the tokens of an expression
abbrev reach : List Open → Expression → Spot
reach stack (term x) = reduce stack (term x)
reach stack (inverse e) = reach (tilde ∷ stack) e
reach stack (binary op a b) = reach (left op a ∷ stack) b
reach stack (bracketed e) = reduce stack (bracketed e)

reduce_none : (stack : List Open) (e : Expression) (tight : ℕ) → Admits stack tight → tight < 4 → reduce stack e ≡ have stack e
reduce_none [] e tight a t = refl
reduce_none (tilde ∷ stack) e tight a t = absurd (omega (arith, a))
reduce_none (bracket ∷ stack) e tight a t = refl
reduce_none (left op b ∷ stack) e tight a t = refl

join_none : (least : ℕ) (stack : List Open) (e : Expression) → Admits stack least → join least stack e ≡ have stack e
join_none least [] e a = refl
join_none least (tilde ∷ stack) e a = refl
join_none least (bracket ∷ stack) e a = refl
join_none least (left op b ∷ stack) e a =
    let loose : nat_le least (tightness op) ≡ false = grind (arith, nat_tests) in rw loose refl

join_more : (least : ℕ) (stack : List Open) (op : Operator) (a b : Expression) → least ≤ tightness op → join least (left op a ∷ stack) b ≡ join least stack (binary op a b)
join_more least stack op a b l =
    let tight : nat_le least (tightness op) ≡ true = grind (arith, nat_tests) in rw tight refl

-- the parts of a grouped expression
inverse_parts : (e : Expression) → is_grouped (inverse e) ≡ true → (is_grouped e ≡ true) × (hold e ≡ 4)
inverse_parts e g =
    let w = both (is_grouped e) (hold e == 4) g in
    (w.0, grind (arith, nat_tests, w.1))

pub record Operands (op : Operator) (a b : Expression) : Type 0 where
  pub one : is_grouped a ≡ true
  pub other : is_grouped b ≡ true
  pub holds : tightness op ≤ hold a
  pub tighter : tightness op < hold b

binary_parts : (op : Operator) (a b : Expression) → is_grouped (binary op a b) ≡ true → Operands op a b
binary_parts op a b g =
    let w = both (is_grouped a && is_grouped b && nat_le (tightness op) (hold a)) (nat_lt (tightness op) (hold b)) g in
    let v = both (is_grouped a && is_grouped b) (nat_le (tightness op) (hold a)) w.0 in
    let u = both (is_grouped a) (is_grouped b) v.0 in
    record { one = u.0; other = u.1; holds = grind (arith, nat_tests, v.1); tighter = grind (arith, nat_tests, w.1) }

-- for an operator that binds no tighter than it holds, an expression stands there as a whole
reach_same : (least : ℕ) (stack : List Open) (e : Expression) → is_grouped e ≡ true → Admits stack (hold e) → least ≤ hold e → join_at least (reach stack e) ≡ join_at least (reduce stack e)
reach_same least stack (term x) g a l = refl
reach_same least stack (bracketed e) g a l = refl
reach_same least stack (inverse e) g a l =
    let w = inverse_parts e g in reach_same least (tilde ∷ stack) e w.0 w.1 (omega (arith, w.1))
reach_same least stack (binary op x y) g a l =
    let w = binary_parts op x y g in
    reach_same least (left op x ∷ stack) y w.other w.tighter (omega (arith, w.tighter))
    ∙ join_more least stack op x y l ∙ ap (join_at least) (sym (reduce_none stack (binary op x y) (tightness op) a (binds op).1))

-- The next token behind a spot.
at_bracket : (us : List Said) (p : Spot) → read (mark (codes ")") ∷ us) p ≡ go_on (read us) (finish (join_at 1 p) (mark (codes ")") ∷ us)) (close (join_at 1 p))
unfolding operator_of
at_bracket us (want stack) = refl
at_bracket us (have stack e) = refl

at_operator : (op : Operator) (us : List Said) (p : Spot) → read (mark (operator_mark op) ∷ us) p ≡ go_on (read us) (finish (join_at 1 p) (mark (operator_mark op) ∷ us)) (take_left op (join_at (tightness op) p))
unfolding operator_of
at_operator Ampersand us (want stack) = refl
at_operator Ampersand us (have stack e) = refl
at_operator Caret us (want stack) = refl
at_operator Caret us (have stack e) = refl
at_operator TildeCaret us (want stack) = refl
at_operator TildeCaret us (have stack e) = refl
at_operator CaretTilde us (want stack) = refl
at_operator CaretTilde us (have stack e) = refl
at_operator Bar us (want stack) = refl
at_operator Bar us (have stack e) = refl

-- a mark behind an expression of a list
abbrev pub is_separator : Said → Bool
is_separator t = is_mark_kind t.kind && (bytes_eq t.text (codes ",") || bytes_eq t.text (codes ";"))

by_separator : (P : Said → Type 0) (kind : TokenKind) (text : List ℕ) (comma semicolon : Bool) → bytes_eq text (codes ",") ≡ comma → bytes_eq text (codes ";") ≡ semicolon → (is_mark_kind kind && (comma || semicolon)) ≡ true → P (mark (codes ",")) → P (mark (codes ";")) → P (record { kind = kind; text = text })
by_separator P Mark text true semicolon e f h p q = subst (λ l. P (mark l)) (sym ((bytes_eq-Decides text (codes ",")).0 e)) p
by_separator P Mark text false true e f h p q = subst (λ l. P (mark l)) (sym ((bytes_eq-Decides text (codes ";")).0 f)) q
by_separator P Mark text false false e f h p q = absurd (cc)
by_separator P Simple text comma semicolon e f h p q = absurd (cc)
by_separator P Word text comma semicolon e f h p q = absurd (cc)
by_separator P Escaped text comma semicolon e f h p q = absurd (cc)
by_separator P Constant text comma semicolon e f h p q = absurd (cc)

at_comma : (us : List Said) (p : Spot) → read (mark (codes ",") ∷ us) p ≡ finish (join_at 1 p) (mark (codes ",") ∷ us)
unfolding operator_of
at_comma us (want stack) = refl
at_comma us (have stack e) = refl

at_semicolon : (us : List Said) (p : Spot) → read (mark (codes ";") ∷ us) p ≡ finish (join_at 1 p) (mark (codes ";") ∷ us)
unfolding operator_of
at_semicolon us (want stack) = refl
at_semicolon us (have stack e) = refl

at_separator : (t : Said) (us : List Said) (p : Spot) → is_separator t ≡ true → read (t ∷ us) p ≡ finish (join_at 1 p) (t ∷ us)
at_separator t us p h =
    by_separator (λ t. read (t ∷ us) p ≡ finish (join_at 1 p) (t ∷ us)) t.kind t.text (bytes_eq t.text (codes ",")) (bytes_eq t.text (codes ";")) refl refl h (at_comma us p) (at_semicolon us p)

net_reach : (stack : List Open) (us : List Said) (escaped : Bool) (text : List ℕ) → read (spell_term (net (record { escaped = escaped; text = text })) ++ us) (want stack) ≡ read us (reduce stack (term (net (record { escaped = escaped; text = text }))))
net_reach stack us true text = refl
net_reach stack us false text = refl

term_reach : (x : Term) (stack : List Open) (us : List Said) → read (spell_term x ++ us) (want stack) ≡ read us (reduce stack (term x))
term_reach low stack us = refl
term_reach high stack us = refl
term_reach (net i) stack us = net_reach stack us i.escaped i.text

operator_behind : (a b us : List Said) (x : Said) → (a ++ (x ∷ b)) ++ us ≡ a ++ (x ∷ (b ++ us))
operator_behind a b us x = simp append_assoc

-- the tokens of an expression lead there
reach_read : (e : Expression) (stack : List Open) (us : List Said) → is_grouped e ≡ true → Admits stack (hold e) → read (spell_expression e ++ us) (want stack) ≡ read us (reach stack e)
reach_read (term x) stack us g a = term_reach x stack us
reach_read (inverse e) stack us g a = let w = inverse_parts e g in reach_read e (tilde ∷ stack) us w.0 w.1
reach_read (bracketed e) stack us g a =
    ap (λ l. read l (want (bracket ∷ stack))) (append_assoc (spell_expression e) (mark (codes ")") ∷ []) us)
    ∙ reach_read e (bracket ∷ stack) (mark (codes ")") ∷ us) g tt ∙ at_bracket us (reach (bracket ∷ stack) e)
    ∙ ap (λ q. go_on (read us) (finish q (mark (codes ")") ∷ us)) (close q)) (reach_same 1 (bracket ∷ stack) e g tt (holds e))
reach_read (binary op x y) stack us g a =
    let w = binary_parts op x y g in
    let before : Admits stack (hold x) = admits_more stack (tightness op) (hold x) a w.holds (binds op).1 in
    let there : join_at (tightness op) (reach stack x) ≡ have stack x = reach_same (tightness op) stack x w.one before w.holds ∙ ap (join_at (tightness op)) (reduce_none stack x (tightness op) a (binds op).1) ∙ join_none (tightness op) stack x a in
    ap (λ l. read l (want stack)) (operator_behind (spell_expression x) (spell_expression y) us (mark (operator_mark op)))
    ∙ reach_read x stack (mark (operator_mark op) ∷ (spell_expression y ++ us)) w.one before
    ∙ at_operator op (spell_expression y ++ us) (reach stack x)
    ∙ ap (λ q. go_on (read (spell_expression y ++ us)) (finish (join_at 1 (reach stack x)) (mark (operator_mark op) ∷ (spell_expression y ++ us))) (take_left op q)) there
    ∙ reach_read y (left op x ∷ stack) us w.other w.tighter

-- what is written and grouped is read, up to a comma or a semicolon
pub expression_again : (t : Said) (us : List Said) (e : Expression) → is_separator t ≡ true → is_grouped e ≡ true → expression_at (spell_expression e ++ (t ∷ us)) ≡ Some (e, t ∷ us)
expression_again t us e s g =
    expression_read (spell_expression e ++ (t ∷ us)) ∙ reach_read e [] (t ∷ us) g tt ∙ at_separator t us (reach [] e) s
    ∙ ap (λ q. finish q (t ∷ us)) (reach_same 1 [] e g tt (holds e))
