-- The text of weights, line by line.
use Rattle.std.proofs.Common.{◌≡◌, ℕ, ◌+◌, List, [], ◌∷◌, ◌++◌, map, refl, sym, ◌∙◌, ap, arith, append_assoc}
use Rattle.std.specs.List.{range_with_len}
use Rattle.std.proofs.lemmas.Grind.{flat_map-append}
use Rattle.std.proofs.lemmas.List.{append-nil}
use Rattle.std.proofs.lemmas.List.FromFn.{map-range_with_len_more}
use Rattle.eco_meaning.specs.Cost.{Weights}
use Rattle.eco_gen.specs.Lines.{weight_line, weight_text}

pub text_none : (f : ℕ → List ℕ × ℕ) → weight_text (map f (range_with_len 0 0)) ≡ []
unfolding weight_text
text_none f = refl

pub text_append : (first second : Weights) → weight_text (first ++ second) ≡ weight_text first ++ weight_text second
unfolding weight_text
text_append first second = flat_map-append weight_line first second

-- one more line
text_more : (f : ℕ → List ℕ × ℕ) (n : ℕ) → weight_text (map f (range_with_len 0 (n + 1))) ≡ weight_text (map f (range_with_len 0 n)) ++ weight_line (f n)
unfolding weight_text
text_more f n =
    ap weight_text (map-range_with_len_more f 0 n n (omega arith)) ∙ text_append (map f (range_with_len 0 n)) (f n ∷ [])
    ∙ ap (λ (line : List ℕ). weight_text (map f (range_with_len 0 n)) ++ line) (append-nil (weight_line (f n)))

pub text_pushed : (f : ℕ → List ℕ × ℕ) (n : ℕ) (first front text : List ℕ) → front ≡ first ++ weight_text (map f (range_with_len 0 n)) → text ≡ front ++ weight_line (f n) → text ≡ first ++ weight_text (map f (range_with_len 0 (n + 1)))
text_pushed f n first front text so_far step =
    step ∙ ap (λ (t : List ℕ). t ++ weight_line (f n)) so_far ∙ append_assoc first (weight_text (map f (range_with_len 0 n))) (weight_line (f n))
    ∙ ap (λ (t : List ℕ). first ++ t) (sym (text_more f n))
