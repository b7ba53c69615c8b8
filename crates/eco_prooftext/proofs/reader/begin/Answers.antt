use Rattle.std.proofs.Common.{◌∷◌, [], List, ℕ, Option, MatchBool, IfSome, IfNone, length, map, ap, sym, subst, ◌∙◌}
use Rattle.std.proofs.lemmas.Bool.{eqb-false}
use Rattle.eco_prooftext.specs.declared.reader.Body.{Body}
use Rattle.eco_prooftext.specs.Reading.{Follows, Leads, IsStuck, Begins, Heads}
use Rattle.eco_prooftext.proofs.LineReadLaws.{begun_line, some_words}
use Rattle.eco_prooftext.proofs.reader.begin.Goals as goal

pub returns : goal.returns
returns c =
    subst (λ (o : Option Body). MatchBool c.is_some.result (Leads Follows o (c.args.line.now ∷ []) c.begun.result) (IsStuck Follows o (c.args.line.now ∷ []))) (sym c.requires)
    (begun_line c.args.line.now c.begun.result c.is_some.result (sym c.is_comment.ensures ∙ c.if-is_comment.false)
    (some_words c.args.line.now c.as_slice-heads.result.now (ap (map (λ w. w.now)) c.as_slice-heads.ensures.value ∙ c.in_ok-words.ensures) (eqb-false (length c.as_slice-heads.result.now) 0 (sym c.is_empty.ensures ∙ c.if-is_empty.false)))
    c.is_some.ensures
    (subst (λ (ws : List (List ℕ)). IfSome c.begun.result (Begins ws)) (ap (map (λ w. w.now)) c.as_slice-heads.ensures.value ∙ c.in_ok-words.ensures) c.begun.ensures.some)
    (subst (λ (ws : List (List ℕ)). IfNone c.begun.result ((vars count : ℕ) → Heads ws vars count → ⊥)) (ap (map (λ w. w.now)) c.as_slice-heads.ensures.value ∙ c.in_ok-words.ensures) c.begun.ensures.none))
