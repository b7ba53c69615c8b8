-- Readers of assignments.
use Rattle.std.proofs.Common.{◌≡◌, ◌≤◌, Bool, true, false, List, ◌∷◌, ◌++◌, length, refl, ap, sym, ◌∙◌, arith, append_assoc, length-append, Some, ◌<◌}
use Rattle.std.specs.Prelude.{codes}
use Rattle.eco_tokens.specs.Said.{Said}
use Rattle.eco_vread.specs.Syntax.{Expression, Assignment}
use Rattle.eco_vread.specs.Grammar.{mark, spell_name, spell_expression, spell_assignment, is_grouped}
use Rattle.eco_vread.specs.Fronts.{name_at, mark_at}
use Rattle.eco_vread.specs.Parse.{assignment_at}
use Rattle.eco_vread.specs.Expressions.{expression_at}
use Rattle.eco_vread.proofs.ExpressionLaws.{expression_takes, expression_again, expression_some}
use Rattle.eco_vread.proofs.Repeats.{by_chain, Shrinks, rest_of, name_less}
use Rattle.eco_vread.proofs.Singles.{IsListed, separator, name_reader, mark_takes, pair_takes}

-- the expression is grouped as operators bind
abbrev pub is_well_grouped : Assignment → Bool
is_well_grouped a = is_grouped a.value

assignment_takes : (ts us : List Said) (x : Assignment) → assignment_at ts ≡ Some (x, us) → (ts ≡ spell_assignment x ++ us) × (is_well_grouped x ≡ true)
unfolding assignment_at
assignment_takes ts us x h =
    by_chain (name_at ts) _ _ h (λ name e f.
    by_chain (mark_at (codes "=") name.1) _ _ f (λ vs g k.
    by_chain (expression_at vs) _ _ k (λ value i j.
    let w = expression_takes vs value.1 value.0 i in
    let made : Assignment = record { name = name.0; value = value.0 } in
    let v = pair_takes spell_assignment is_well_grouped made x value.1 us w.1 j in (
      (name_reader.takes ts name.1 name.0 e).0 ∙ ap (λ l. spell_name name.0 ++ l) (mark_takes (codes "=") name.1 vs g ∙ ap (λ l. mark (codes "=") ∷ l) w.0)
          ∙ sym (append_assoc (spell_name name.0) (mark (codes "=") ∷ spell_expression value.0) value.1) ∙ v.0,
      v.1,
    ))))

-- a comma and a semicolon end an expression
expression_listed : (us : List Said) (is_more : Bool) (e : Expression) → is_grouped e ≡ true → expression_at (spell_expression e ++ (separator (codes ";") is_more ∷ us)) ≡ Some (e, separator (codes ";") is_more ∷ us)
expression_listed us true e g = expression_again (mark (codes ",")) us e refl g
expression_listed us false e g = expression_again (mark (codes ";")) us e refl g

assignment_again : (us : List Said) (is_more : Bool) (x : Assignment) → is_well_grouped x ≡ true → assignment_at (spell_assignment x ++ (separator (codes ";") is_more ∷ us)) ≡ Some (x, separator (codes ";") is_more ∷ us)
unfolding assignment_at mark_at
assignment_again us is_more x g =
    rw (append_assoc (spell_name x.name) (mark (codes "=") ∷ spell_expression x.value) (separator (codes ";") is_more ∷ us), name_reader.again (mark (codes "=") ∷ (spell_expression x.value ++ (separator (codes ";") is_more ∷ us))) x.name refl, expression_listed us is_more x.value g) refl

assignment_some : (x : Assignment) → 1 ≤ length (spell_assignment x)
assignment_some x = omega (arith, length-append (spell_name x.name) (mark (codes "=") ∷ spell_expression x.value))

pub assignment_listed : IsListed assignment_at spell_assignment is_well_grouped (codes ";")
assignment_listed = record { takes = assignment_takes; again = assignment_again; some = assignment_some }

pub expression_less : Shrinks expression_at
expression_less = record {
  less = λ ts us e h.
      let w = expression_takes ts us e h in
      omega (arith, expression_some e, ap length w.0, length-append (spell_expression e) us);
}

pub assignment_less : Shrinks assignment_at
unfolding assignment_at
assignment_less = record {
  less = λ ts us x h.
      by_chain (name_at ts) _ _ h (λ name e f.
      by_chain (mark_at (codes "=") name.1) _ _ f (λ vs g k.
      by_chain (expression_at vs) _ _ k (λ value m n.
      let a : length name.1 < length ts = name_less.less ts name.1 name.0 e in
      let b : length value.1 < length vs = expression_less.less vs value.1 value.0 m in
      omega (arith, ap length (mark_takes (codes "=") name.1 vs g), ap (λ o. length (rest_of o)) n))));
}
