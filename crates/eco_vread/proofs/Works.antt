-- The gates that are made of an expression's postfix form.
use Rattle.std.proofs.Common.{◌≡◌, ℕ, ◌+◌, ◌≤◌, ◌<◌, List, [], ◌∷◌, ◌++◌, length, map, drop, reverse, get_or, Option, Some, None, refl, ap, sym, ◌∙◌, append_assoc, arith}
use Rattle.std.specs.Prelude.{count_by, cond, option_and_then}
use Rattle.std.proofs.lemmas.List.Sums.{sum_by-append}
use Rattle.std.proofs.lemmas.List.Folds.{fold-map}
use Rattle.std.proofs.lemmas.List.{append-nil, reverse-append, at_drop_more, at_drop_all}
use Rattle.eco_meaning.specs.declared.name.Operand.{Operand}
use Rattle.eco_meaning.specs.declared.name.Operand.TheVariants.{Named}
use Rattle.eco_meaning.specs.declared.kind.Kind.{Kind}
use Rattle.eco_meaning.specs.declared.kind.Kind.TheVariants.{Not}
use Rattle.eco_meaning.specs.Circuit.{NamedGate}
use Rattle.eco_vread.specs.declared.tree.Symbol.{Symbol}
use Rattle.eco_vread.specs.Syntax.{Expression}
use Rattle.eco_vread.specs.Syntax.Expression.{term, inverse, binary, bracketed}
use Rattle.eco_vread.specs.Postfix.{Sign, sign_of, postfix, is_operator, expression_of, IsPostfix}
use Rattle.eco_vread.specs.Postfix.Sign.{operand, inversion, operation, brackets}
use Rattle.eco_vread.specs.Meaning.{operand_of, operator_kind, operators, source, expression_gates}
use Rattle.eco_vread.specs.Declaring.{Work, with_gates, with_operator, inverted, combined, with_sign, with_signs}

-- what is made by the signs of an expression
abbrev pub with_expression : (ℕ → List ℕ) → Expression → Work → Work
with_expression driven e w = record {
  declared = with_gates w.declared (expression_gates driven w.count e);
  operands = source driven w.count e ∷ w.operands;
  count = w.count + operators e;
}

-- the gate of an operator, behind those of its operands
gate_added : (driven : ℕ → List ℕ) (kind : Kind) (taken others : List Operand) (w : Work) (gates : List NamedGate) (m n : ℕ) → m + 1 ≡ n → with_operator driven kind taken others (record w { declared = with_gates w.declared gates; count = m }) ≡ record w { declared = with_gates w.declared (gates ++ record { kind = kind; out = driven n; terms = taken } ∷ []); operands = Named (driven n) ∷ others; count = n }
gate_added driven kind taken others w gates m n e =
    let by_gates : List NamedGate → Work = λ all. record { declared = record w.declared { gates = all }; operands = Named (driven (m + 1)) ∷ others; count = m + 1 } in
    let by_count : ℕ → Work = λ k. record { declared = with_gates w.declared (gates ++ record { kind = kind; out = driven k; terms = taken } ∷ []); operands = Named (driven k) ∷ others; count = k } in
    ap by_gates (append_assoc w.declared.gates gates (record { kind = kind; out = driven (m + 1); terms = taken } ∷ [])) ∙ ap by_count e

-- the signs of an expression make it
pub made_of_postfix : (driven : ℕ → List ℕ) (e : Expression) (signs : List Sign) (w : Work) → with_signs driven (postfix e ++ signs) w ≡ with_signs driven signs (with_expression driven e w)
unfolding with_signs
made_of_postfix driven (term t) signs w =
    let by_gates : List NamedGate → Work = λ all. record { declared = record w.declared { gates = all }; operands = operand_of t ∷ w.operands; count = w.count } in
    let by_count : ℕ → Work = λ k. record { declared = with_gates w.declared []; operands = operand_of t ∷ w.operands; count = k } in
    let none : w.count ≡ w.count + 0 = omega arith in
    ap (with_signs driven signs) (ap by_gates (sym (append-nil w.declared.gates)) ∙ ap by_count none)
made_of_postfix driven (inverse e) signs w =
    ap (λ l. with_signs driven l w) (append_assoc (postfix e) (inversion ∷ []) signs)
    ∙ made_of_postfix driven e (inversion ∷ signs) w
    ∙ ap (with_signs driven signs) (gate_added driven Not (source driven w.count e ∷ []) w.operands w (expression_gates driven w.count e) (w.count + operators e) (w.count + operators (inverse e)) (omega arith))
made_of_postfix driven (binary op a b) signs w =
    let left = with_expression driven a w in
    let ga = expression_gates driven w.count a in
    let gb = expression_gates driven (w.count + operators a) b in
    let taken = source driven w.count a ∷ source driven (w.count + operators a) b ∷ [] in
    let by_gates : List NamedGate → Work = λ all. with_operator driven (operator_kind op) taken w.operands (record w { declared = record w.declared { gates = all }; count = w.count + operators a + operators b }) in
    let by_added : List NamedGate → Work = λ all. record w { declared = with_gates w.declared all; operands = Named (driven (w.count + operators (binary op a b))) ∷ w.operands; count = w.count + operators (binary op a b) } in
    ap (λ l. with_signs driven l w) (append_assoc (postfix a) (postfix b ++ operation op ∷ []) signs ∙ ap (λ l. postfix a ++ l) (append_assoc (postfix b) (operation op ∷ []) signs))
    ∙ made_of_postfix driven a (postfix b ++ operation op ∷ signs) w
    ∙ made_of_postfix driven b (operation op ∷ signs) left
    ∙ ap (with_signs driven signs) (ap by_gates (append_assoc w.declared.gates ga gb)
    ∙ gate_added driven (operator_kind op) taken w.operands w (ga ++ gb) (w.count + operators a + operators b) (w.count + operators (binary op a b)) (omega arith)
    ∙ ap by_added (append_assoc ga gb (record { kind = operator_kind op; out = driven (w.count + operators (binary op a b)); terms = taken } ∷ [])))
made_of_postfix driven (bracketed e) signs w =
    ap (λ l. with_signs driven l w) (append_assoc (postfix e) (brackets ∷ []) signs) ∙ made_of_postfix driven e (brackets ∷ signs) w

-- the same of a whole postfix form
pub made_of_signs : (driven : ℕ → List ℕ) (signs : List Sign) (w : Work) → IsPostfix signs → with_signs driven signs w ≡ Some (with_expression driven (expression_of signs) w)
unfolding with_signs
made_of_signs driven signs w formed =
    ap (λ l. with_signs driven l w) (formed ∙ sym (append-nil (postfix (expression_of signs)))) ∙ made_of_postfix driven (expression_of signs) [] w

inverted_counts : (driven : ℕ → List ℕ) (w : Work) (operands : List Operand) (u : Work) → inverted driven w operands ≡ Some u → w.count ≤ u.count
inverted_counts driven w [] u e = absurd (cc)
inverted_counts driven w (a ∷ others) u e =
    let same : w.count + 1 ≡ u.count = cc in
    omega arith

combined_counts : (driven : ℕ → List ℕ) (kind : Kind) (w : Work) (operands : List Operand) (u : Work) → combined driven kind w operands ≡ Some u → w.count ≤ u.count
combined_counts driven kind w [] u e = absurd (cc)
combined_counts driven kind w (b ∷ []) u e = absurd (cc)
combined_counts driven kind w (b ∷ a ∷ others) u e =
    let same : w.count + 1 ≡ u.count = cc in
    omega arith

after_sign : (driven : ℕ → List ℕ) (signs : List Sign) (found : Option Work) (u : Work) → option_and_then (with_signs driven signs) found ≡ Some u → (next : Work) × (found ≡ Some next) × (with_signs driven signs next ≡ Some u)
after_sign driven signs None u e = absurd (cc)
after_sign driven signs (Some next) u e = (next, refl, e)

-- the first sign, and those behind it
pub next_sign : (driven : ℕ → List ℕ) (sign : Sign) (signs : List Sign) (w u : Work) → with_signs driven (sign ∷ signs) w ≡ Some u → (next : Work) × (with_sign driven sign w ≡ Some next) × (with_signs driven signs next ≡ Some u)
unfolding with_signs
next_sign driven sign signs w u e = after_sign driven signs (with_sign driven sign w) u e

-- a sign counts at most one operator, and none is taken back
sign_counts : (driven : ℕ → List ℕ) (sign : Sign) (w u : Work) → with_sign driven sign w ≡ Some u → w.count ≤ u.count
sign_counts driven (operand t) w u e =
    let same : w.count ≡ u.count = cc in
    omega arith
sign_counts driven inversion w u e = inverted_counts driven w w.operands u e
sign_counts driven (operation op) w u e = combined_counts driven (operator_kind op) w w.operands u e
sign_counts driven brackets w u e =
    let same : w.count ≡ u.count = cc in
    omega arith

pub signs_count : (driven : ℕ → List ℕ) (signs : List Sign) (w u : Work) → with_signs driven signs w ≡ Some u → w.count ≤ u.count
unfolding with_signs
signs_count driven [] w u e =
    let same : w.count ≡ u.count = cc in
    omega arith
signs_count driven (sign ∷ signs) w u e =
    let step = next_sign driven sign signs w u e in
    let here = sign_counts driven sign w step.0 step.1 in
    let rest = signs_count driven signs step.0 u step.2 in
    omega arith

-- the next symbol of a list, and those behind it
pub at_symbol : (driven : ℕ → List ℕ) (value : List Symbol) (i : ℕ) (symbol : Symbol) (w u : Work) → i < length value → symbol ≡ get_or value i symbol → with_signs driven (map sign_of (drop i value)) w ≡ Some u → (next : Work) × (with_sign driven (sign_of symbol) w ≡ Some next) × (with_signs driven (map sign_of (drop (i + 1) value)) next ≡ Some u)
at_symbol driven value i symbol w u lt is h =
    let rest = map sign_of (drop (i + 1) value) in
    next_sign driven (sign_of symbol) rest w u (ap (λ s. with_signs driven (sign_of s ∷ rest) w) is ∙ sym (at_drop_more (λ l. with_signs driven (map sign_of l) w) value i symbol lt) ∙ h)

-- what is made by it goes on to the same
pub behind_symbol : (driven : ℕ → List ℕ) (value : List Symbol) (i : ℕ) (symbol : Symbol) (w u new : Work) → i < length value → symbol ≡ get_or value i symbol → with_signs driven (map sign_of (drop i value)) w ≡ Some u → with_sign driven (sign_of symbol) w ≡ Some new → with_signs driven (map sign_of (drop (i + 1) value)) new ≡ Some u
behind_symbol driven value i symbol w u new lt is h e =
    let step = at_symbol driven value i symbol w u lt is h in
    let two : Some step.0 ≡ Some new = sym step.1 ∙ e in
    let same : step.0 ≡ new = cc in
    ap (λ v. with_signs driven (map sign_of (drop (i + 1) value)) v) (sym same) ∙ step.2

-- behind the last symbol all is made
pub behind_all : (driven : ℕ → List ℕ) (value : List Symbol) (i : ℕ) (w u : Work) → length value ≤ i → with_signs driven (map sign_of (drop i value)) w ≡ Some u → w ≡ u
unfolding with_signs
behind_all driven value i w u le h =
    let two : Some w ≡ Some u = sym (at_drop_all (λ l. with_signs driven (map sign_of l) w) value i le) ∙ h in
    cc

-- the one operand that is left
pub the_operand : (items rest : List Operand) (last source : Operand) → items ≡ rest ++ last ∷ [] → reverse items ≡ source ∷ [] → last ≡ source
the_operand items rest last source e h =
    let two : last ∷ reverse rest ≡ source ∷ [] = sym (reverse-append rest (last ∷ [])) ∙ ap reverse (sym e) ∙ h in
    cc

-- the operators of a postfix form
counted_in_postfix : (e : Expression) → count_by is_operator (postfix e) ≡ operators e
counted_in_postfix (term t) = refl
counted_in_postfix (inverse e) = omega (arith, sum_by-append (λ sign. cond (is_operator sign) 1 0) (postfix e) (inversion ∷ []), counted_in_postfix e)
counted_in_postfix (binary op a b) =
    omega (
      arith,
      sum_by-append (λ sign. cond (is_operator sign) 1 0) (postfix a) (postfix b ++ operation op ∷ []),
      sum_by-append (λ sign. cond (is_operator sign) 1 0) (postfix b) (operation op ∷ []),
      counted_in_postfix a,
      counted_in_postfix b,
    )
counted_in_postfix (bracketed e) = omega (arith, sum_by-append (λ sign. cond (is_operator sign) 1 0) (postfix e) (brackets ∷ []), counted_in_postfix e)

counted_by_sign : (value : List Symbol) → count_by (λ symbol. is_operator (sign_of symbol)) value ≡ count_by is_operator (map sign_of value)
counted_by_sign value = sym (fold-map (λ count sign. count + cond (is_operator sign) 1 0) sign_of 0 value)

pub operators_counted : (value : List Symbol) → IsPostfix (map sign_of value) → count_by (λ symbol. is_operator (sign_of symbol)) value ≡ operators (expression_of (map sign_of value))
operators_counted value formed =
    counted_by_sign value ∙ ap (count_by is_operator) formed ∙ counted_in_postfix (expression_of (map sign_of value))
