-- Lines of one kind, one more at a time.
use Rattle.std.proofs.Common.{◌≡◌, ℕ, zero, suc, ◌<◌, List, [], ◌∷◌, length, get_or, map, refl, sym, ap, ◌∙◌, arith}
use Rattle.std.proofs.Common.{Bor}
use Rattle.std.proofs.lemmas.List.{get_or-map, length-map}
use Rattle.std.proofs.lemmas.List.Elements.{All-nil, All-head, All-tail}
use Rattle.eco_aiger.specs.Grammar.{words_of, words_in}
use Rattle.eco_aiger.specs.Parts.{AreRows}

module _ {X : Type 0} (row : X → List (List ℕ)) (P : X → Type 0) where
  -- no lines
  pub rows_none : AreRows row P [] []
  rows_none = record { words = refl; all = All-nil P }

  -- where one line is none of these, the lines are not
  pub rows_stuck : (rows : List (List ℕ)) (k : ℕ) (line : List ℕ) → k < length rows → get_or rows k line ≡ line → ((x : X) → (words_of line ≡ row x) × P x → ⊥) → (xs : List X) → AreRows row P rows xs → ⊥
  rows_stuck [] k line lt at none xs are = absurd (omega arith)
  rows_stuck (r ∷ rows) k line lt at none [] are = let e = are.words in absurd (cc e)
  rows_stuck (r ∷ rows) zero line lt at none (x ∷ xs) are =
      let e = are.words in
      let first : words_of r ≡ row x = cc e in
      none x (ap words_of (sym at) ∙ first, All-head P x xs are.all)
  rows_stuck (r ∷ rows) (suc k) line lt at none (x ∷ xs) are =
      let e = are.words in
      let rest : words_in rows ≡ map row xs = cc e in
      rows_stuck rows k line (omega arith) at none xs (record { words = rest; all = All-tail P x xs are.all })

  -- the same, where the lines stand behind references
  pub rows_stuck_at : (lines : List (Bor (List ℕ))) (k : ℕ) (d : Bor (List ℕ)) → k < length lines → ((x : X) → (words_of (get_or lines k d).now ≡ row x) × P x → ⊥) → (xs : List X) → AreRows row P (map (λ line. line.now) lines) xs → ⊥
  rows_stuck_at lines k d lt none xs are =
      rows_stuck (map (λ line. line.now) lines) k (get_or lines k d).now (let e = length-map lines (λ (line : Bor (List ℕ)). line.now) in omega arith) (get_or-map (λ (line : Bor (List ℕ)). line.now) lines k d (get_or lines k d).now lt) none xs are

  -- where a line says one thing alone, lines say one list
  pub rows_once : ((x y : X) → P x → P y → row x ≡ row y → x ≡ y) → (rows : List (List ℕ)) (xs ys : List X) → AreRows row P rows xs → AreRows row P rows ys → xs ≡ ys
  rows_once once [] [] [] a b = refl
  rows_once once [] [] (y ∷ ys) a b = let e = b.words in absurd (cc e)
  rows_once once [] (x ∷ xs) ys a b = let e = a.words in absurd (cc e)
  rows_once once (r ∷ rows) [] ys a b = let e = a.words in absurd (cc e)
  rows_once once (r ∷ rows) (x ∷ xs) [] a b = let e = b.words in absurd (cc e)
  rows_once once (r ∷ rows) (x ∷ xs) (y ∷ ys) a b =
      let e = a.words in
      let f = b.words in
      let first_a : words_of r ≡ row x = cc e in
      let first_b : words_of r ≡ row y = cc f in
      let rest_a : words_in rows ≡ map row xs = cc e in
      let rest_b : words_in rows ≡ map row ys = cc f in
      let first = once x y (All-head P x xs a.all) (All-head P y ys b.all) (sym first_a ∙ first_b) in
      let rest = rows_once once rows xs ys (record { words = rest_a; all = All-tail P x xs a.all }) (record { words = rest_b; all = All-tail P y ys b.all }) in
      cc (first, rest)
