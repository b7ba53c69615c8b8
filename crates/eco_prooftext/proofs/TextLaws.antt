-- Texts of proofs: lines follow one another.
use Rattle.std.proofs.Common.{◌≡◌, ℕ, suc, ◌+◌, ◌-◌, ◌<◌, ◌≤◌, List, [], ◌∷◌, ◌++◌, length, take, slice_get, Some, sym, ap, ◌∙◌, subst, arith}
use Rattle.std.specs.List.{flat_map}
use Rattle.std.proofs.lemmas.List.{flat_map_more, length-append, length-map}
use Rattle.eco_lists.proofs.Places.{item_at, take_at_more}
use Rattle.eco_trace.specs.Resolution.{Proof, Learnt, clauses_of}
use Rattle.eco_prooftext.specs.Texts.{learnt_text}

-- the lines of one learnt clause more
text_more : (p : Proof) (text text' : List ℕ) (k : ℕ) (n : Learnt) → slice_get p.learnt k ≡ Some n → text ≡ flat_map learnt_text (take k p.learnt) → text' ≡ text ++ learnt_text n → text' ≡ flat_map learnt_text (take (suc k) p.learnt)
text_more p text text' k n at e f =
    f
    ∙ ap (λ (t : List ℕ). t ++ learnt_text n) e
    ∙ flat_map_push learnt_text (take k p.learnt) n
    ∙ ap (flat_map learnt_text) (sym (take_at_more p.learnt k n at))
  where
    flat_map_push : (f : Learnt → List ℕ) (xs : List Learnt) (x : Learnt) → flat_map f xs ++ f x ≡ flat_map f (xs ++ x ∷ [])
    flat_map_push g xs x = flat_map_more g [] xs x

-- the same by the node's number
pub text_step : (p : Proof) (text text' : List ℕ) (node : ℕ) → length p.originals ≤ node → node < length (clauses_of p) → text ≡ flat_map learnt_text (take (node - length p.originals) p.learnt) → ((n : Learnt) → slice_get p.learnt (node - length p.originals) ≡ Some n → text' ≡ text ++ learnt_text n) → text' ≡ flat_map learnt_text (take (node + 1 - length p.originals) p.learnt)
text_step p text text' node le lt e f =
    let k : ℕ = node - length p.originals in
    let all : length (clauses_of p) ≡ length p.originals + length p.learnt = simp (length-append, length-map) in
    let item = item_at p.learnt k (omega arith) in
    let next : suc k ≡ node + 1 - length p.originals = omega arith in
    subst (λ (m : ℕ). text' ≡ flat_map learnt_text (take m p.learnt)) next (text_more p text text' k item.0 item.1 e (f item.0 item.1))
